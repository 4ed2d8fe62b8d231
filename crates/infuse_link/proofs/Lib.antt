-- a scan of a list for the first refusal: how it is at each place
pub mod Scans
-- sets whose files are read: what the records say is what the files say
pub mod ReadSets
-- bodies are verified one by one: what is found for those left is found for all
pub mod TypedBodies
-- a linked set whose bodies have types is one of which an image can be made
pub mod LinkedSets
-- what is answered for a set is its verdict
pub mod Verdicts
