pub mod Settings
pub mod Compiled
