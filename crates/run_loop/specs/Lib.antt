pub mod Ran
pub mod StepTurns
