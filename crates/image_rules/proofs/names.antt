-- machine instructions that name nothing
pub mod Plain
-- what is known as an int
pub mod NumberTypes
-- ints among the types of a body
pub mod NumberTables
-- slots and cells of locals
pub mod Locals
-- statics at their places
pub mod Statics
-- what extends parameters
pub mod Fills
-- the machine instructions of each family
pub mod Expansions
