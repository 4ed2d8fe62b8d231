-- How many operand cells some operands take: references, and the cells of whole numbers.
use Rattle.std.specs.Prelude.{◌≡◌, List}
use Rattle.image_instr.specs.declared.insn.Kind.{Kind}
use Rattle.jvm_model.specs.ImageExpansion.{refs_in, cells_in}
use Rattle.flow_split.specs.declared.restacking.Room.{Room}

-- the room of these operands
pub record IsRoom (room : Room) (shapes : List Kind) : Type 0 where
  pub refs : room.refs ≡ refs_in shapes
  pub cells : room.cells ≡ cells_in shapes
