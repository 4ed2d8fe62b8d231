-- the positions of the rows whose range holds a pc, one position after the other
pub mod Positions
-- pcs that rise: a search among them finds the instruction at a pc
pub mod Starts
-- what is reached by the ways of a body's instructions is what is reached by its successors and handlers
pub mod Reaching
