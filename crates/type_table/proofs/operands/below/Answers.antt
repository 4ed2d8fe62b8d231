-- A step down passes one more operand.
use Rattle.std.proofs.Common.{◌+◌, sym, subst, arith}
use Rattle.type_table.specs.declared.operands.Chain.{Chain}
use Rattle.type_table.proofs.Chaining.{IsWalked, walk_on}
use Rattle.type_table.proofs.operands.below.Goals as goal
use Rattle.type_table.proofs.operands.below.Goals.{in-Some, in_default}

pub loop-preserved : goal.loop-preserved
loop-preserved c =
    elim c.match-split_top.branch [
      | in-Some w ↦
          subst (λ (rest : Chain). IsWalked c.args.cells.now c.args.chain (c.loop.counter + 1) rest) (sym w.rest-is)
          (walk_on c.args.cells.now c.args.chain c.loop.counter c.loop.rest _ _ c.loop.invariant w.in-Some.ensures)
      | in_default w ↦ absurd (omega (arith, w.in_default.ensures))
    ]
