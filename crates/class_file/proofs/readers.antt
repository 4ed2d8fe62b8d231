-- The faults of a part.
pub mod Steps
-- Readers of parts: each takes one encoding of a part that is good, and every such encoding is read.
pub mod Parts
-- Readers of lists: so many steps, where a step may look at what was read before it.
pub mod Lists
-- A refusal in one of the steps that a loop does.
pub mod Loop
