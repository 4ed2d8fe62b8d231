pub mod Phases
pub mod Verdict
