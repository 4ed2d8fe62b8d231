use Rattle.std.proofs.Common.{◌≡◌, ◌+◌, ◌-◌, ◌++◌, drop, length}
use Rattle.std.specs.Prelude.{true}
use Rattle.jvm_model.specs.WidthsShapes.{is_narrow, width_where}
use Rattle.infuse_emit.specs.Shapes.{shapes_upon}
use Rattle.infuse_emit.proofs.shapes.shapes_of.Given as goal

abbrev pub invariant-loop-operand : goal.invariant-loop-operand
invariant-loop-operand l =
    record {
      place : l.place ≡ (l.fn.height - length l.operands) + length (drop l.operand-index l.operands);
      shapes : l.shapes.items ++ shapes_upon (λ n. width_where (is_narrow l.narrow l.pc true n)) (l.fn.height - length l.operands) (drop l.operand-index l.operands)
          ≡ shapes_upon (λ n. width_where (is_narrow l.narrow l.pc true n)) (l.fn.height - length l.operands) l.operands;
    }
