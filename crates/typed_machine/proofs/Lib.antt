-- lists of objects that keep the types of those of another list, and moves that keep those of a list
mod KeptObjects
-- the parts of moves keep objects: going on, jumps, objects that are made, and throws
mod MovesKeep
-- moves on arrays keep objects
mod ArraysKeep
-- calls and returns keep objects
mod CallsKeep
-- each instruction's move keeps objects
mod StepKeeps
