-- merges of types, lists and frames
pub mod merges
-- the rule of each family, on frames below
mod families
-- the frame after an instruction is of the set, proper where the one before it is, and above where that is
pub mod Rules
