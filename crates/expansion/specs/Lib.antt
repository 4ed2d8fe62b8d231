pub mod Expanding
pub mod Seen
