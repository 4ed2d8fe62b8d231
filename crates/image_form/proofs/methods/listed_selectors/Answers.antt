use Rattle.std.proofs.Common.{◌≡◌, ◌++◌, ◌∷◌, []}
use Rattle.std.proofs.lemmas.Result.{err_from_is_err_and}
use Rattle.image_form.specs.Reading.{items_at, selector_at}
use Rattle.image_form.proofs.format.Items.{goes_on, ends, is_done, one_longer}
use Rattle.image_form.proofs.methods.listed_selectors.Goals as goal

pub returns-in_err-selector : goal.returns-in_err-selector
returns-in_err-selector c =
    let p = err_from_is_err_and c.from_residual.result c.from_residual.ensures.1 in
    rw (p.1, p.2) (ends selector_at c.in_err-selector.field-0.0 c.args.count c.loop.counter c.loop.selectors.items c.loop.rest.now (items_at selector_at c.args.count [] c.args.bytes.now) c.loop-test.true (rw c.as_slice.ensures.value at c.in_err-selector.ensures) c.loop.invariant.so_far)

pub loop-preserved : goal.loop-preserved
loop-preserved c = record {
  length_is = one_longer c.loop.selectors.items c.push.new.self.items c.in_ok-selector.selector c.loop.counter c.in_ok-push.ensures.items c.loop.invariant.length_is;
  so_far = let pushed : c.push.new.self.items ≡ c.loop.selectors.items ++ c.in_ok-selector.selector ∷ [] = c.in_ok-push.ensures.items in rw pushed (goes_on selector_at c.args.count c.loop.counter c.loop.selectors.items c.loop.rest.now c.in_ok-selector.selector c.in_ok-selector.after.now (items_at selector_at c.args.count [] c.args.bytes.now) c.loop-test.true (rw c.as_slice.ensures.value at c.in_ok-selector.ensures) c.loop.invariant.so_far);
}

pub returns : goal.returns
returns c = is_done selector_at c.args.count c.loop.counter c.loop.selectors.items c.loop.rest.now (items_at selector_at c.args.count [] c.args.bytes.now) c.loop-test.false c.loop.invariant.so_far
