-- rounds as waves of instructions, over a table
mod waves
-- the rule of each family, on frames of a store
pub mod families
