-- which offsets are starts: a search among offsets that rise finds them
pub mod Starts
-- instructions that stand one after the other
pub mod Holding
-- the targets of an instruction by their number, and the bytes of a switch
pub mod Targets
-- tests of each element of a list, by steps
pub mod Passing
-- depths in the table
pub mod Depths
-- what a depth that reaches an offset reaches after its instruction
pub mod Reaching
-- a depth is entered at one successor after the other
pub mod Spreading
-- what is kept while depths are followed
pub mod Flowing
-- when no visit is left, the table is a closed set, so it has each depth that reaches an offset
pub mod Ending
-- a rule that fails is one that an image does not keep
pub mod Apart
-- the methods of an image, one by one
pub mod Methods
-- the table of dimensions, type by type
pub mod ArrayTables
