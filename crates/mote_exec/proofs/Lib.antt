-- halves of frames as lists, locals first and the top last
pub mod HalfLists
-- a step that goes on
pub mod GoingOn
-- widths of numbers
pub mod Widths
-- what is taken off the top
pub mod Taking
-- a step that jumps
pub mod Jumping
-- the cell on top
pub mod TopCells
-- a step that pushes a reference
pub mod PushedReferences
-- shuffles of a half of a frame
pub mod Shuffled
-- a step that moves references
pub mod MovedReferences
-- a step that takes references off the top
pub mod TakenReferences
-- references of one object
pub mod SameObjects
-- tests of references
pub mod ReferenceTesting
-- the instruction at the pc of a step
pub mod Standing
-- a step that reads statics
pub mod ReadStatics
-- a step that writes statics
pub mod WrittenStatics
-- cells that are read and written in place
pub mod LocalCells
-- references that are read and written among the locals
pub mod LocalReferences
-- locals of a width
pub mod LocalWidths
-- steps that push a local
pub mod LoadedLocals
-- steps that pop into a local
pub mod StoredLocals
-- steps that change a local in place
pub mod ChangedLocals
