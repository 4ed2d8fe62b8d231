pub mod Reached
pub mod Visits
pub mod Tree
