use Rattle.std.proofs.Common.{◌≡◌, true, false, sym, ◌∙◌, ap, arith, rules, length-drop, FitsSigned, w32, to_z, of_z}
use Rattle.std.proofs.lemmas.Int.{to_z-of_z}
use Rattle.image_instr.specs.Reading.{is_above, key_in}
use Rattle.image_instr.proofs.switches.RowTests.{keys_rise-done, keys_rise-falls, keys_rise-goes_on}
use Rattle.image_instr.proofs.switch.keys_rise.Goals as goal

pub returns-then-not-is_above : goal.returns-then-not-is_above
returns-then-not-is_above c =
    let fits : FitsSigned w32 c.key-key.result = search rules in
    let same : to_z w32 (of_z w32 c.key-key.result) ≡ key_in c.loop.rest.now = to_z-of_z w32 c.key-key.result fits ∙ c.key-key.ensures in
    let falls : is_above c.loop.before (key_in c.loop.rest.now) ≡ false = ap (is_above c.loop.before) (sym same) ∙ sym c.is_above.ensures ∙ c.if-not-is_above.true in
    sym (keys_rise-falls c.args.count c.loop.counter c.loop.before c.loop.rest.now c.loop-test.true falls) ∙ c.loop.invariant.decided

pub loop-preserved : goal.loop-preserved
loop-preserved c =
    let fits : FitsSigned w32 c.key-key.result = search rules in
    let same : to_z w32 (of_z w32 c.key-key.result) ≡ key_in c.loop.rest.now = to_z-of_z w32 c.key-key.result fits ∙ c.key-key.ensures in
    let above : is_above c.loop.before (key_in c.loop.rest.now) ≡ true = ap (is_above c.loop.before) (sym same) ∙ sym c.is_above.ensures ∙ c.if-not-is_above.false in
    let on = keys_rise-goes_on c.args.count c.loop.counter c.loop.before c.loop.rest.now c.loop-test.true above in
    record {
      there = rw c.suffix-rest.ensures (omega (arith, length-drop 6 c.loop.rest.now));
      decided =
          rw (c.suffix-rest.ensures, same) (sym on ∙ c.loop.invariant.decided);
    }

pub returns : goal.returns
returns c = sym (keys_rise-done c.args.count c.loop.counter c.loop.before c.loop.rest.now c.loop-test.false) ∙ c.loop.invariant.decided
