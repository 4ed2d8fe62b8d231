-- pcs that rise, and the rows of switches
mod KeptRows
-- what instructions count, and how many parameters there are
mod KeptCounts
-- the numbers of machine instructions are of their types
pub mod ranges
