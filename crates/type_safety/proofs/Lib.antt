-- what fits, and goes on to fit
pub mod fitting
-- what the phases of a set give
pub mod facts
-- moves, family by family
mod moves
-- from a state that fits there is a move, and the next state fits
pub mod SafeMoves
-- moves from a state that fits lead to states that fit
mod SafeRuns
-- where runs start
pub mod starts
