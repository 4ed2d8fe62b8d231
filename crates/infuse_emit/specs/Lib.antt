pub mod Instruction
pub mod Parts
pub mod Offsets
pub mod Shapes
