-- numbers in lists
pub mod Members
-- how the set of reached instructions grows
pub mod Growing
-- the index of a pc among pcs that rise
pub mod Indexes
-- what waits in the tree, as an index is put there and as it is taken
pub mod Nodes
-- the tree of some rows: as it is made, row by row, and as handlers are taken from it
pub mod Rows
-- where the instructions of some code lead, with an exception table: instruction by instruction
pub mod Ways
-- the search as a whole: the set has what is reached and nothing else
pub mod Reaching
