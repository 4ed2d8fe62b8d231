-- The operands and needs that are left decide.
use Rattle.std.proofs.Common.{◌≡◌, drop}
use Rattle.jvm_model.specs.TypesRules.{takes}
use Rattle.type_table.specs.Frames.{operands_of}
use Rattle.flow_verify.specs.Needs.{tests_of}
use Rattle.flow_verify.proofs.need.takes.Given as goal

abbrev pub invariant-loop-position : goal.invariant-loop-position
invariant-loop-position l =
    takes (drop l.position (tests_of l.set l.needs)) (drop l.position (operands_of l.store.cells l.frame.height l.frame.operands))
    ≡ takes (tests_of l.set l.needs) (operands_of l.store.cells l.frame.height l.frame.operands)
