pub mod Fitting
pub mod Facts
pub mod Safety
pub mod Parts
pub mod Starts
