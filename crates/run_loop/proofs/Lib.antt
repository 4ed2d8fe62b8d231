-- the forms of plain moves, whatever is answered
pub mod PlainForms
-- each plain instruction makes a plain move
pub mod PlainMoves
-- the instruction that is next
pub mod NextInsn
-- turns of plain instructions, over a console
pub mod PlainTurns
-- moves that go on place nothing, keep the objects, and raise the rank little
pub mod CallForms
-- names of objects, read back from their offsets
pub mod NamesBack
-- the state of which a memory is the picture
pub mod ReadBack
-- what a move comes to within limits
pub mod Settling
-- how far a run has come
pub mod Coming
-- a run that ends with the next step
pub mod Endings
