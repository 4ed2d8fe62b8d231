-- after an end, more steps change nothing; so a run has one ending
pub mod Endings
-- where one machine follows another, the second ends as the first
pub mod Simulation
-- how many bytes a dialogue asks for
pub mod Gets
-- the answers of an input
pub mod Inputs
