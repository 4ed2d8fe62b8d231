use Rattle.std.proofs.Common.{◌≡◌, ◌++◌, take}
use Rattle.std.specs.List.{flat_map}
use Rattle.image_instr.specs.Insn.{u2}
use Rattle.image_form.proofs.write.append_each_number.Given as goal

-- so many are written
abbrev pub invariant-loop-number : goal.invariant-loop-number
invariant-loop-number l = l.out.items ≡ l.fn.out.items ++ flat_map u2 (take l.number-index l.numbers)
