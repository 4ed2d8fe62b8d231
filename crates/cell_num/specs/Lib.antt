pub mod Cells
pub mod Arithmetic
pub mod Conversions
pub mod Conditions
pub mod Ranges
