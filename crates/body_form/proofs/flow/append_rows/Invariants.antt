use Rattle.std.proofs.Common.{◌≡◌, ◌++◌, map, take}
use Rattle.insn_form.specs.declared.SwitchRow.{SwitchRow}
use Rattle.body_form.proofs.flow.append_rows.Given as goal

-- the targets of the rows so far
abbrev pub invariant-loop-row : goal.invariant-loop-row
invariant-loop-row l = l.out.items ≡ l.initial.out.items ++ map (λ (row : SwitchRow). row.target) (take l.row-index l.rows)
