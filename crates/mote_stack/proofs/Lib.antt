-- parts of a list of cells, read upwards and downwards
pub mod Ranges
-- the youngest frame in the cells, and what stays of the others as its cells change
pub mod Youngest
-- the stack as the cells of the youngest frame change
pub mod Changed
-- writes to a header and to the halves of a body, as changes of the lists
pub mod HalfWrites
-- shuffles of the operands, as moves of cells and as changes of lists
pub mod Shuffled
-- copies of cells within the memory, as shuffles of a half
pub mod Copies
-- walks from the youngest frame to the oldest, a step a frame
pub mod Walks
-- the cells of the references of all frames
pub mod RootCells
-- frames that come and go
pub mod Calls
-- a frame whose halves a test fills
pub mod Filling
