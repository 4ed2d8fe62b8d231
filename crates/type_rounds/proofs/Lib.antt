-- tables of types, round by round
pub mod tables
-- weights that fall, so that rounds end
mod ranks
-- what rounds find, by the laws of the crates below
pub mod Rounds
