pub mod Answers
pub mod Dialogue
pub mod Limits
pub mod Natives
pub mod Outcome
pub mod Run
pub mod Simulation
