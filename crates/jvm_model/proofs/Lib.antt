-- phases: each has one answer
pub mod phases
-- bodies: what is reached, and what they name
pub mod bodies
-- each initial static is one that a write to its field keeps, and the last write counts
pub mod StaticsSet
-- the places of fields, by their members
mod PlaceLists
