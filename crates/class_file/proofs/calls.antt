-- What a call answers, where reading gives each class file its record, and other bytes their refusal.
pub mod Answers
-- What is refused before any memory is asked for: the length, the magic and the version.
pub mod AtOnce
