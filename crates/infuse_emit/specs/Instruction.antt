-- What the bytes of an instruction are told of.
use Rattle.std.specs.Prelude.{ℕ}
use Rattle.jvm_model.specs.WidthsShapes.{Point}
use Rattle.jvm_model.specs.ImageExpansion.{Locals, Ids}

-- the locals of its method, the ids of what is named, the offsets of pcs, and the point of the instruction
pub record Seen : Type 0 where
  pub locals : Locals
  pub ids : Ids
  pub offset : ℕ → ℕ
  pub point : Point
