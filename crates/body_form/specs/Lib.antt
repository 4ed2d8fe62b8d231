pub mod Flow
pub mod Reach
