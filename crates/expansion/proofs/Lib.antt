pub mod Appended
pub mod Windows
pub mod Arguments
pub mod Alike
pub mod Rows
pub mod Limits
pub mod ExpansionSizes
pub mod SizesBelow
