-- what the crates below say of frames of types and of rules, as one record that the lemmas here take
pub mod Ordered
-- lists each element of which has a property
pub mod Lists
-- the instruction at a pc: there is one exactly at a start
pub mod Starts
-- what arrives at an instruction is the merge of what is sent there
pub mod Arrivals
-- what instructions send to their successors and their handlers
pub mod SentFrames
-- the tables of rounds: each frame is proper, and stands at a pc that is reached
pub mod ProperTables
-- what rounds know is below each right table, so no round fails where there is one
pub mod BelowRight
-- a table that a round leaves as it is, and at which none fails, is right
pub mod QuietTables
-- there is one failing pc and one least table, and which rounds give which
pub mod FirstAnswers
-- whether a round fails is decided
pub mod FailingRounds
