use Rattle.std.proofs.Common.{◌≡◌, ◌++◌, ◌∷◌, ◌-◌, [], false, refl}
use Rattle.std.proofs.lemmas.Result.{err_from_is_err_and}
use Rattle.class_pool.specs.PoolReading.{is_first_of_two, slots_at}
use Rattle.class_pool.proofs.constant_pool.Steps.{good_shows}
use Rattle.class_pool.proofs.constant_pool.Loop.{goes_on, ends, is_done, first_read, first_fails, first_passed}
use Rattle.class_pool.proofs.slots.slots_at.Goals as goal

pub returns-in_err-slot-clause-value : goal.returns-in_err-slot-clause-value
returns-in_err-slot-clause-value c =
    let p = err_from_is_err_and c.from_residual.result c.from_residual.ensures.1 in
    rw (p.1, p.2) (ends c.in_err-slot.field-0.0 c.loop-index.second c.loop-index.slots.items c.args.count c.loop-index.index c.loop-index.rest.now (slots_at false 1 (c.args.count - 1) c.args.bytes.now) c.loop-index-test.true (good_shows c.in_err-slot.field-0.0 _ c.in_err-slot.ensures) c.loop-index.invariant.so_far)

pub loop-index-preserved : goal.loop-index-preserved
loop-index-preserved c =
    let slot = c.in_ok-slot.slot in
    let pushed : c.push.new.self.items ≡ c.loop-index.slots.items ++ slot ∷ [] = c.in_ok-push.ensures.items in
    let wide : c.is_first_of_two-second.result ≡ is_first_of_two slot = c.is_first_of_two-second.ensures in
    record {
      so_far = rw (pushed, wide) (goes_on c.loop-index.second c.loop-index.slots.items c.args.count c.loop-index.index c.loop-index.rest.now slot c.in_ok-slot.after.now (slots_at false 1 (c.args.count - 1) c.args.bytes.now) c.loop-index-test.true c.in_ok-slot.ensures c.loop-index.invariant.so_far);
      begun = λ why e. first_read c.args.count c.args.bytes.now c.loop-index.second c.loop-index.index c.loop-index.rest.now (slot, c.in_ok-slot.after.now) why c.loop-index.invariant.begun c.in_ok-slot.ensures e;
    }

pub returns-clause-value : goal.returns-clause-value
returns-clause-value c = is_done c.loop-index.second c.loop-index.slots.items c.args.count c.loop-index.index c.loop-index.rest.now (slots_at false 1 (c.args.count - 1) c.args.bytes.now) c.loop-index-test.false c.loop-index.invariant.so_far

pub returns-in_err-slot-clause-first : goal.returns-in_err-slot-clause-first
returns-in_err-slot-clause-first c = λ why some e.
    let p = err_from_is_err_and c.from_residual.result c.from_residual.ensures.1 in
    let is = first_fails c.args.count c.args.bytes.now c.loop-index.second c.loop-index.index c.loop-index.rest.now why c.in_err-slot.field-0.0 c.loop-index.invariant.begun c.in_err-slot.ensures e in
    rw (p.1, p.2, is) refl

pub returns-in_err-push-clause-first : goal.returns-in_err-push-clause-first
returns-in_err-push-clause-first c = λ why some e.
    first_read c.args.count c.args.bytes.now c.loop-index.second c.loop-index.index c.loop-index.rest.now (c.in_ok-slot.slot, c.in_ok-slot.after.now) why c.loop-index.invariant.begun c.in_ok-slot.ensures e

pub returns-clause-first : goal.returns-clause-first
returns-clause-first c = λ why some e. first_passed c.args.count c.args.bytes.now c.loop-index.second c.loop-index.index c.loop-index.rest.now why c.loop-index.invariant.begun c.loop-index-test.false some e
