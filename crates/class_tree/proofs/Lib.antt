-- lists, tables and names, as the code keeps them
mod tables
-- what is above what
pub mod ancestors
-- lookups, access, and ways up
pub mod lookups
-- merges of types, and what fits them
pub mod merging
-- files have one answer of all phases
pub mod OneAnswer
