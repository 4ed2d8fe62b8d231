-- moves by what they lower, whichever machine makes them
pub mod Lowering
-- the code behind the pcs of the split machine's frames
pub mod SplitRank
-- the forms of the split machine's moves, by what they lower
pub mod SplitForms
-- locals and statics of the split machine
pub mod SplitLocals
-- its operands, whole numbers and jumps
pub mod SplitNumbers
-- its calls and returns
pub mod SplitCalls
-- each instruction of the split machine lowers the rank
pub mod SplitMoves
-- the split machine is measured
pub mod SplitMeasure
-- the instructions behind the pcs of the typed machine's frames
pub mod TypedRank
-- the forms of the typed machine's moves, by what they lower
pub mod TypedForms
-- locals, operands, whole numbers and jumps of the typed machine
pub mod TypedPlain
-- its statics, fields and objects
pub mod TypedObjects
-- its arrays
pub mod TypedArrays
-- its calls and returns
pub mod TypedCalls
-- each instruction of the typed machine lowers the rank
pub mod TypedMoves
-- the typed machine is measured
pub mod TypedMeasure
