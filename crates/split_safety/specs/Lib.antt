pub mod Reached
pub mod Runs
pub mod Safety
pub mod Ready
