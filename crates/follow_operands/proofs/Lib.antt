-- states that match behind an instruction, whose locals may change
pub mod MovedFrames
-- shapes of operands by their values
pub mod ValueShapes
-- nop, and constants
pub mod Constants
-- lists of operands that are removed, copied and exchanged
pub mod OperandMoves
-- instructions that move the operands of both halves
pub mod Halves
-- the stack forms
pub mod StackForms
-- rooms of locals, one after the other
pub mod LocalRooms
-- two cells that are written in a list
pub mod WrittenCells
-- lists of locals without one twice, and their slots
pub mod DistinctLocals
-- lists with one item set
pub mod SetLocals
-- locals of wide bodies, which have cells apart
pub mod WideLocals
-- slots of reference locals
pub mod ReferenceSlots
-- the rules of loads and stores
pub mod LocalRules
-- frames with one local set
pub mod SetFrames
-- locals that are set to whole numbers
pub mod NumberLocals
-- what is read of lists
pub mod ReadLists
-- rules of types that set a local
pub mod StoredTypes
-- types of references, whose locals have slots
pub mod SlottedTypes
-- right tables, whose references are of locals with slots
pub mod SlottedTables
-- loads of whole numbers
pub mod LoadedNumbers
-- loads of references
pub mod LoadedReferences
-- stores of whole numbers
pub mod StoredNumbers
-- stores of references
pub mod StoredReferences
-- loads and stores of both kinds
pub mod LocalMoves
-- increments
pub mod IncrementedNumbers
