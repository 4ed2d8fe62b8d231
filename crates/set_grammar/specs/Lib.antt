pub mod Grammars
pub mod Parts
