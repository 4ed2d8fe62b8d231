-- an instruction in the youngest frame of a reached state
pub mod Going
-- the form of the lemmas on moves
pub mod Lemmas
-- throws, which nothing catches
pub mod Throwing
-- whole numbers
pub mod NumberMoves
-- jumps
pub mod JumpMoves
-- operands that are moved
pub mod OperandMoves
-- locals and statics
pub mod LocalMoves
-- returns
pub mod ReturnMoves
-- calls of static methods
pub mod CallMoves
-- the move of each instruction
pub mod AllMoves
-- the state in which a run starts
pub mod Starting
-- the next instruction of a mote that is ready
pub mod Ready
