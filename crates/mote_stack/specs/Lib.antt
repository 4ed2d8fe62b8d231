pub mod Frames
pub mod Shuffles
pub mod Roots
pub mod Moves
pub mod Filled
pub mod Layout
