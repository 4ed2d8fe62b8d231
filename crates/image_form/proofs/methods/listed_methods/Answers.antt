use Rattle.std.proofs.Common.{◌≡◌, ◌++◌, ◌∷◌, []}
use Rattle.std.proofs.lemmas.Result.{err_from_is_err_and}
use Rattle.image_form.specs.Reading.{items_at, method_at}
use Rattle.image_form.proofs.format.Items.{goes_on, ends, is_done, one_longer}
use Rattle.image_form.proofs.methods.listed_methods.Goals as goal

pub returns-in_err-method : goal.returns-in_err-method
returns-in_err-method c =
    let p = err_from_is_err_and c.from_residual.result c.from_residual.ensures.1 in
    rw (p.1, p.2) (ends (method_at c.args.types.now) c.in_err-method.field-0.0 c.args.count c.loop.counter c.loop.methods.items c.loop.rest.now (items_at (method_at c.args.types.now) c.args.count [] c.args.bytes.now) c.loop-test.true (rw c.as_slice.ensures.value at c.in_err-method.ensures) c.loop.invariant.so_far)

pub loop-preserved : goal.loop-preserved
loop-preserved c = record {
  length_is = one_longer c.loop.methods.items c.push.new.self.items c.in_ok-method.method c.loop.counter c.in_ok-push.ensures.items c.loop.invariant.length_is;
  so_far = let pushed : c.push.new.self.items ≡ c.loop.methods.items ++ c.in_ok-method.method ∷ [] = c.in_ok-push.ensures.items in rw pushed (goes_on (method_at c.args.types.now) c.args.count c.loop.counter c.loop.methods.items c.loop.rest.now c.in_ok-method.method c.in_ok-method.after.now (items_at (method_at c.args.types.now) c.args.count [] c.args.bytes.now) c.loop-test.true (rw c.as_slice.ensures.value at c.in_ok-method.ensures) c.loop.invariant.so_far);
}

pub returns : goal.returns
returns c = is_done (method_at c.args.types.now) c.args.count c.loop.counter c.loop.methods.items c.loop.rest.now (items_at (method_at c.args.types.now) c.args.count [] c.args.bytes.now) c.loop-test.false c.loop.invariant.so_far
