pub mod Refusals
pub mod Answers
pub mod TypeTests
pub mod MemberUses
pub mod Calls
pub mod Names
pub mod Pushes
