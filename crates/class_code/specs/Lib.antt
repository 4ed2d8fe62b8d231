pub mod Operands
pub mod Table
pub mod Code
pub mod Flow
