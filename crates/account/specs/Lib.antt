pub mod Account
pub mod Run
pub mod Reachable
pub mod Dialogue
pub mod RunLaws
