-- what holds of each item of a list holds of each item of its parts
pub mod Lists
-- an instruction that is read has bytes, and pushes an int
pub mod Numbers
-- cells stay cells
pub mod Cells
-- what stands at an offset that a depth reaches
pub mod Standing
-- what is moved among operands, and cells in place
pub mod Parts
