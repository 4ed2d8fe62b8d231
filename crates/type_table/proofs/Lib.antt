-- where entries are added, chains, trees and frames that are there stay what they are
pub mod Growing
-- lists read at an index, and by what is left of them
mod Lists
-- where an object that is not yet constructed is absent, a rename changes nothing
mod Lacking
-- how many ints there are among operands
mod Counting
-- steps down a chain of operands, and one more on it
mod Chaining
-- steps down a tree of locals, and new trees over others
mod Branching
-- a tree whose first locals are given, and whose others say nothing
mod Filling
-- the merge of two chains, walked from the top, is that of their lists
mod MergedChains
-- the merge of two trees is that of their lists of locals, half by half
mod MergedTrees
-- the merge of two frames is that of their operands and of their locals
mod MergedFrames
-- the frame of a row, by its index and by its pc
pub mod TypeRows
-- a frame has as many operands as it is high, and as many locals as its store says
pub mod Lengths
