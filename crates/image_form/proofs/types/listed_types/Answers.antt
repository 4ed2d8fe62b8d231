use Rattle.std.proofs.Common.{◌≡◌, ◌++◌, ◌∷◌, [], arith}
use Rattle.std.proofs.lemmas.Result.{err_from_is_err_and}
use Rattle.image_form.specs.Reading.{items_at, type_at}
use Rattle.image_form.proofs.format.Items.{goes_on, ends, is_done, one_longer}
use Rattle.image_form.proofs.types.listed_types.Goals as goal

pub returns-in_err-entry-clause-value : goal.returns-in_err-entry-clause-value
returns-in_err-entry-clause-value c =
    let p = err_from_is_err_and c.from_residual.result c.from_residual.ensures.1 in
    rw (p.1, p.2) (ends type_at c.in_err-entry.field-0.0 c.args.count c.loop.counter c.loop.types.items c.loop.rest.now (items_at type_at c.args.count [] c.args.bytes.now) c.loop-test.true (rw c.as_slice.ensures.value at c.in_err-entry.ensures) c.loop.invariant.so_far)

pub loop-preserved : goal.loop-preserved
loop-preserved c = record {
  arrays_are = let pushed : c.push.new.self.items ≡ c.loop.types.items ++ c.in_ok-entry.entry ∷ [] = c.in_ok-push.ensures.items in rw pushed (c.in_ok-note.ensures.arrays c.loop.types.items c.loop.invariant.arrays_are);
  length_is = one_longer c.loop.types.items c.push.new.self.items c.in_ok-entry.entry c.loop.counter c.in_ok-push.ensures.items c.loop.invariant.length_is;
  so_far = let pushed : c.push.new.self.items ≡ c.loop.types.items ++ c.in_ok-entry.entry ∷ [] = c.in_ok-push.ensures.items in rw pushed (goes_on type_at c.args.count c.loop.counter c.loop.types.items c.loop.rest.now c.in_ok-entry.entry c.in_ok-entry.after.now (items_at type_at c.args.count [] c.args.bytes.now) c.loop-test.true (rw c.as_slice.ensures.value at c.in_ok-entry.ensures) c.loop.invariant.so_far);
}

pub returns-clause-value : goal.returns-clause-value
returns-clause-value c = is_done type_at c.args.count c.loop.counter c.loop.types.items c.loop.rest.now (items_at type_at c.args.count [] c.args.bytes.now) c.loop-test.false c.loop.invariant.so_far

pub returns-clause-count : goal.returns-clause-count
returns-clause-count c = omega (arith, c.loop.invariant.length_is, c.loop.auto)
