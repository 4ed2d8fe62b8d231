pub mod Frames
pub mod Chains
pub mod Trees
pub mod Changes
pub mod StoreLaws
pub mod Merges
pub mod Types
pub mod Counts
