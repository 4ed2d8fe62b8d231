pub mod Setting
pub mod MatchedFrames
pub mod MatchedObjects
pub mod Followed
