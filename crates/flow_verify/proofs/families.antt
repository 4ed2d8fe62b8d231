-- the instruction at a pc, by its position
pub mod Placed
-- operands that are taken, one after the other
pub mod Taking
-- operands that move, by their positions
pub mod Moving
-- the object on which a constructor is called, and what it is then
pub mod Constructing
-- where the type of a method's result is absent, no return holds
pub mod Returning
-- the frame after an instruction, step by step
pub mod FrameAfter
