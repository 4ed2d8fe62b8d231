-- weights of what is known, and that steps end where a weight falls with each
pub mod Weights
-- ranks of classes: a class that a merge leaves has a lower rank than the other one, or is the same
pub mod ClassRanks
-- ranks of references: one that a merge leaves has a lower rank than the other one, or is the same
pub mod RefRanks
-- weights of types, frames and tables: what is above weighs no more
pub mod FrameWeights
-- rounds end: one fails, or one changes nothing
pub mod RoundsEnd
