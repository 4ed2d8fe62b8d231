use Rattle.std.proofs.Common.{◌≡◌, ◌-◌, ◌*◌, ◌≤◌, true, None, drop}
use Rattle.image_instr.specs.Reading.{rows_in, keys_rise}
use Rattle.image_instr.specs.Switch.{target_in}
use Rattle.image_instr.proofs.switch.row_target.Given as goal

-- the rows from the low index to the high one rise, and give the target
abbrev pub invariant-loop-low : goal.invariant-loop-low
invariant-loop-low l =
    record {
      order : l.low ≤ l.high;
      within : l.high ≤ l.count;
      rise : keys_rise (l.high - l.low) None (drop (6 * l.low) l.rows) ≡ true;
      same : target_in l.default (rows_in (l.high - l.low) (drop (6 * l.low) l.rows)) l.wanted ≡ target_in l.default (rows_in l.count l.rows) l.wanted;
    }

abbrev pub decreases-loop-low : goal.decreases-loop-low
decreases-loop-low l = l.high - l.low
