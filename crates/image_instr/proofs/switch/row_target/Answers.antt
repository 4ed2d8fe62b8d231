use Rattle.std.proofs.Common.{◌≡◌, ◌+◌, ◌-◌, ◌*◌, ◌/◌, ◌<◌, ◌≤◌, ◌<ℤ◌, drop, sym, ap, subst, ◌∙◌, arith, rules, w32, to_z, of_z, FitsSigned}
use Rattle.std.proofs.lemmas.Int.{to_z-of_z}
use Rattle.byteorder.specs.Endian.{big_number}
use Rattle.image_instr.specs.Reading.{key_in, rows_in}
use Rattle.image_instr.specs.Switch.{target_in}
use Rattle.image_instr.proofs.switches.Search.{rise_right, rise_left, go_right, go_left, found_here, none_left, less, greater}
use Rattle.image_instr.proofs.switch.row_target.Goals as goal

pub returns-then-key-wanted : goal.returns-then-key-wanted
returns-then-key-wanted c =
    let low = c.loop-low.low in
    let high = c.loop-low.high in
    let middle = low + (high - low) / 2 in
    let rows = c.args.rows.now in
    let wanted = to_z w32 (of_z w32 c.args.wanted) in
    let from : low ≤ middle = omega arith in
    let to : middle < high = omega (arith, c.loop-low-test.true) in
    let row = c.rows_from-row.ensures in
    let fits : FitsSigned w32 c.key-key.result = search rules in
    let key : to_z w32 (of_z w32 c.key-key.result) ≡ key_in (drop (6 * middle) rows) = to_z-of_z w32 c.key-key.result fits ∙ c.key-key.ensures ∙ ap key_in row in
    let passed : wanted ≡ c.args.wanted = to_z-of_z w32 c.args.wanted c.ranges.wanted in
    c.target.ensures ∙ ap (λ b. big_number 2 (drop 4 b)) row
    ∙ found_here low middle high rows from to c.loop-low.invariant.rise c.args.default wanted (sym key ∙ ap (to_z w32) c.if-key-wanted.true)
    ∙ c.loop-low.invariant.same ∙ ap (target_in c.args.default (rows_in c.args.count rows)) passed

pub loop-low-preserved-then-key-wanted-2 : goal.loop-low-preserved-then-key-wanted-2
loop-low-preserved-then-key-wanted-2 c =
    let low = c.loop-low.low in
    let high = c.loop-low.high in
    let middle = low + (high - low) / 2 in
    let rows = c.args.rows.now in
    let wanted = to_z w32 (of_z w32 c.args.wanted) in
    let from : low ≤ middle = omega arith in
    let to : middle < high = omega (arith, c.loop-low-test.true) in
    let row = c.rows_from-row.ensures in
    let fits : FitsSigned w32 c.key-key.result = search rules in
    let key : to_z w32 (of_z w32 c.key-key.result) ≡ key_in (drop (6 * middle) rows) = to_z-of_z w32 c.key-key.result fits ∙ c.key-key.ensures ∙ ap key_in row in
    let over : key_in (drop (6 * middle) rows) <ℤ wanted = subst (λ k. k <ℤ wanted) key (less (to_z w32 (of_z w32 c.key-key.result)) wanted c.if-key-wanted-2.true) in
    record {
      order = omega (arith, to);
      within = c.loop-low.invariant.within;
      rise = rise_right low middle high rows from to c.loop-low.invariant.rise;
      same = go_right low middle high rows from to c.loop-low.invariant.rise c.args.default wanted over ∙ c.loop-low.invariant.same;
    }

pub loop-low-preserved : goal.loop-low-preserved
loop-low-preserved c =
    let low = c.loop-low.low in
    let high = c.loop-low.high in
    let middle = low + (high - low) / 2 in
    let rows = c.args.rows.now in
    let wanted = to_z w32 (of_z w32 c.args.wanted) in
    let from : low ≤ middle = omega arith in
    let to : middle < high = omega (arith, c.loop-low-test.true) in
    let row = c.rows_from-row.ensures in
    let fits : FitsSigned w32 c.key-key.result = search rules in
    let key : to_z w32 (of_z w32 c.key-key.result) ≡ key_in (drop (6 * middle) rows) = to_z-of_z w32 c.key-key.result fits ∙ c.key-key.ensures ∙ ap key_in row in
    let other : to_z w32 (of_z w32 c.key-key.result) ≡ wanted → ⊥ = λ e. c.if-key-wanted.false (ap (of_z w32) (sym (to_z-of_z w32 c.key-key.result fits) ∙ e ∙ to_z-of_z w32 c.args.wanted c.ranges.wanted)) in
    let under : wanted <ℤ key_in (drop (6 * middle) rows) = subst (λ k. wanted <ℤ k) key (greater (to_z w32 (of_z w32 c.key-key.result)) wanted c.if-key-wanted-2.false other) in
    record {
      order = from;
      within = omega (arith, to, c.loop-low.invariant.within);
      rise = rise_left low middle high rows from to c.loop-low.invariant.rise;
      same = go_left low middle high rows from to c.loop-low.invariant.rise c.args.default wanted under ∙ c.loop-low.invariant.same;
    }

pub returns : goal.returns
returns c =
    let passed : to_z w32 (of_z w32 c.args.wanted) ≡ c.args.wanted = to_z-of_z w32 c.args.wanted c.ranges.wanted in
    none_left c.loop-low.low c.loop-low.high c.args.default c.args.rows.now (to_z w32 (of_z w32 c.args.wanted)) c.loop-low-test.false
    ∙ c.loop-low.invariant.same ∙ ap (target_in c.args.default (rows_in c.args.count c.args.rows.now)) passed
