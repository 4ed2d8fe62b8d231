pub mod ImageOutcome
pub mod SetOutcome
pub mod RunsAlike
