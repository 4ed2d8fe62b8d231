-- wrapping to the bits of a type, told by the unsigned bits of a number
pub mod Wrapping
-- what the walks along rising numbers find: the nearest of them from below and from above
pub mod Thresholds
-- what the operations give of ints are ints
pub mod IntResults
-- numbers and their cells tell one another
pub mod CellLaws
