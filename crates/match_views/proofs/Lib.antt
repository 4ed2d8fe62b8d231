-- lists whose items match one by one
pub mod MatchedLists
-- the references of matching frames
pub mod FrameNames
-- the references of matching states
pub mod RootNames
-- the fields of an object, as its classes declare them
pub mod ObjectFields
-- how many cells fields have
pub mod FieldCells
-- how many cells elements have
pub mod ElementCells
-- the cells and references of matching objects
pub mod ObjectViews
-- the cells of matching frames
pub mod FrameCells
-- what the account sees of matching states
pub mod Views
-- states that match when their frames change
pub mod NextFrames
-- states that match when objects are placed or changed
pub mod NextObjects
