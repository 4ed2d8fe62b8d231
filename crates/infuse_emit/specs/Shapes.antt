-- The shapes of operands that stand upon others.
use Rattle.std.specs.Prelude.{ℕ, ◌+◌, List, [], ◌∷◌, length}
use Rattle.image_instr.specs.declared.insn.Kind.{Kind}
use Rattle.image_instr.specs.declared.insn.Width.{Width}
use Rattle.body_form.specs.declared.types.VType.{VType}
use Rattle.jvm_model.specs.WidthsShapes.{shape_of}

-- the shapes of operands that stand upon so many others, the top first
unfoldable pub shapes_upon : (ℕ → Width) → ℕ → List VType → List Kind
shapes_upon width below [] = []
shapes_upon width below (type ∷ types) = shape_of (width (below + length types)) type ∷ shapes_upon width below types
