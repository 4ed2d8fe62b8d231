-- The operands so far are picked.
use Rattle.std.proofs.Common.{◌≡◌, take, length}
use Rattle.type_table.specs.Frames.{operands_of}
use Rattle.flow_verify.specs.Moves.{picked}
use Rattle.flow_verify.proofs.operands.moves.Given as goal

abbrev pub invariant-loop-index : goal.invariant-loop-index
invariant-loop-index l =
    record {
      long : length l.types ≡ 6;
      picked : take l.index l.types ≡ picked (operands_of l.store.cells l.frame.height l.frame.operands) (take l.index l.positions);
    }
