use Rattle.std.proofs.Common.{◌≡◌, ◌++◌, map, take, drop}
use Rattle.jvm_model.specs.TypesRules.{renamed_one}
use Rattle.type_table.proofs.operands.rename_all.Given as goal

abbrev pub invariant-loop-value : goal.invariant-loop-value
invariant-loop-value l = l.values ≡ map (renamed_one l.from l.to) (take l.value-index l.initial.values) ++ drop l.value-index l.initial.values
