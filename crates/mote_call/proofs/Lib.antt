-- halves of frames whose items are shown by a map
pub mod MappedHalves
-- moves that are not stuck
pub mod NotStuck
-- methods with code
pub mod OwnCode
-- the move of the next instruction, whatever is answered
pub mod Answering
-- frames that return to their callers
pub mod Returning
-- results of returns
pub mod Results
-- returns of references and of cells
pub mod ReturnedKinds
-- cells in use
pub mod UsedCells
-- calls of methods with code
pub mod Calling
-- the stack after a call
pub mod CalledStack
-- bytes that are shown, and what a console reads
pub mod Consoles
-- answers that a console may give
pub mod GivenAnswers
-- code behind a call
pub mod CallCode
-- natives that show bytes
pub mod Showing
-- numbers of which natives show bytes
pub mod ShownNumbers
-- the native that reads a byte
pub mod ReadBytes
-- turns that say nothing, over a console
pub mod QuietTurns
