-- A text that is no descriptor is refused as one, whatever memory there is.
pub mod Told
-- The rows of a pool's texts make a right table, which knows members of one name and descriptor.
pub mod SameTexts
-- What stands before the attributes of a member, by what a table of the texts says.
pub mod Heads
