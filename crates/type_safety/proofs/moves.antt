-- the forms of lemmas on moves
pub mod Lemmas
-- an instruction in a state that fits goes on, jumps or throws
pub mod Going
-- a frame goes on after its instruction
pub mod GoingOn
-- frames that go on, at the next instruction or at a target
pub mod Moving
-- what a move of the youngest frame goes on to fits
pub mod NextStates
-- a method's start fits its types
pub mod Starting
-- constants, whole numbers and branches
pub mod PlainMoves
-- locals and the operand stack
pub mod LocalMoves
-- fields and statics
pub mod FieldMoves
-- objects are made, cast and tested
pub mod ObjectMoves
-- arrays are made, read and written
pub mod ArrayMoves
-- what arrays hold
pub mod ArrayElements
-- arrays of arrays are made
pub mod ArraysOfArrays
-- athrow
pub mod ThrowMoves
-- the arguments of a call fit the parameters
pub mod Arguments
-- the parts of a call: its rule, the new frame, and the caller
pub mod CallParts
-- calls that run a native
pub mod NativeMoves
-- calls of static methods
pub mod CallMoves
-- calls on objects: the receiver, and what is found for it
pub mod ObjectCalls
-- calls of methods that an object's class selects
pub mod ReceiverCalls
-- calls of constructors and other invokespecial
pub mod ConstructorMoves
-- returns
pub mod ReturnMoves
-- each move, by the family of the instruction
pub mod AllMoves
