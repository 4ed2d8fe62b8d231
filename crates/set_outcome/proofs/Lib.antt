-- the classes of what the typed machine throws in the instructions that run so far
pub mod ThrownClasses
-- what an accepted set throws uncaught is of a class of the library, and its image names it so
pub mod ThrownNames
-- runs have one outcome
pub mod OneOutcome
-- the image of an accepted set keeps the rules of the check
pub mod KeptRules
-- the run of an accepted set and that of its image show the same
pub mod AlikeOutcomes
-- the run within limits is cut from the run without them
pub mod CutOutcomes
