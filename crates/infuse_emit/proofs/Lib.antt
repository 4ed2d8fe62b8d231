pub mod Emitted
pub mod OffsetLists
pub mod ShapeLists
pub mod RowHeights
pub mod NextPcs
pub mod NotedWidths
