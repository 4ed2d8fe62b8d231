-- instructions without numbers
pub mod Plain
-- constants, by their bits
pub mod Constants
-- switches and their rows
pub mod Switches
-- calls and their arguments
pub mod Calls
-- slots and cells of locals
pub mod PlanLocals
-- numbers of what instructions name
pub mod ImageIds
-- each family
pub mod Expansions
-- the machine instructions of a body
pub mod Bodies
