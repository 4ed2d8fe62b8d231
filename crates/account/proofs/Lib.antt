-- runs that join, and what was said before
pub mod Running
-- a run has one end
pub mod OneEnd
-- a run that ends, as its moves one by one
pub mod Course
-- what the needs of a move come to
pub mod Meeting
-- a machine that follows another ends as it does
pub mod Following
-- runs of a measured machine end
pub mod Ending
-- what is asked of a console, and what is left of its answers
pub mod Answering
-- a run within limits shows no more than the run without them
pub mod Limiting
-- lists of names
pub mod Names
-- what a collection keeps is the least closed set of names
pub mod Reaching
