-- How many cells a number has, as effects and as moves have it.
use Rattle.std.proofs.Common.{◌≡◌, refl}
use Rattle.image_instr.specs.declared.insn.Width.{Width}
use Rattle.image_instr.specs.declared.insn.Width.TheVariants as width
use Rattle.image_instr.specs.Effect.{cells_in}
use Rattle.mote_model.specs.SplitMoves.{count_of}

pub cells_same : (w : Width) → cells_in w ≡ count_of w
cells_same width.One = refl
cells_same width.Two = refl
