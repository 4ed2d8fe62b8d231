-- the least closed set of pcs is there, so it is decided which pcs are reached
pub mod ReachedSets
-- what is asked of a reached instruction, and of one that is not reached, has an answer
pub mod ReachedInsns
-- the classes that names name are classes of the set
pub mod NamedClasses
-- the families of a body stand at the pcs of its instructions, which rise
pub mod FamiliesRise
-- what the instructions of a body name is of the set: its classes, and types over them
pub mod BodyNames
-- a method of a set has one body at most, and it is decided whether it has one
pub mod OneBody
