-- what instructions make of numbers of 32 bits are such numbers
pub mod Numbers
-- lists whose items are so one by one, and what they contain
pub mod SetLists
-- such lists by their parts, turned around or mapped
pub mod EachLists
-- what fits a type fits each type that this one fits
pub mod FitsOver
-- what is below a type fits it, and so does what merges with it to the type
pub mod BelowFits
-- what fits a type fits each type above it, and so does a frame
pub mod Values
-- what a value that fits a type holds
pub mod HeldValues
-- the body of a method of a set, with its facts and types
pub mod SetBodies
-- operands and locals by their types
pub mod Operands
-- what fits goes on to fit while objects grow
pub mod Growing
-- objects that are appended or set
pub mod GrownObjects
-- an object that is new fits
pub mod NewObject
-- the youngest frame of a state that fits stands at an instruction
pub mod Standing
-- a frame that leaves an instruction fits where it leads
pub mod Leaving
-- the classes that the machine throws are below Throwable
pub mod MachineThrows
-- a throw fits
pub mod Throwing
-- all parts
pub mod PartsHold
