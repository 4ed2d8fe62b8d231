-- reading the rows of a switch one after the other, as a loop does
pub mod Rows
-- an instruction has at least one byte: what is after it is shorter
pub mod Shorter
-- reading instructions one after the other, by steps
pub mod Decoding
-- the first of a list that does not pass a test
pub mod Firsts
-- which pcs are starts: a search among pcs that rise finds them
pub mod Starts
-- decoding as a function is the relation: each answer of it comes exactly where the relation says
pub mod Laws
-- the rows of an exception table: what was answered is the first that does not fit
pub mod Handlers
-- the numbers of instructions that were read keep to their types, and the keys of a switch to their order
pub mod Numbers
