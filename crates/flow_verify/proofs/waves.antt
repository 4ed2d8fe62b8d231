-- each instruction is the one at its pc, and pcs that rise are each of one position
pub mod Positions
-- the lowest pc of two properties is the lower of those of each
pub mod LowestPcs
-- what arrives is the least frame above all that is sent, so frames below a known one may be left out
pub mod Joins
-- lists of frames that are sent grow by what is sent to instructions
pub mod Adding
-- what is sent to handlers, row by row
pub mod Handlers
-- what is known stays so where a store grows
pub mod StillKnown
-- an entry that is put at a position, and what is known then
pub mod Putting
-- what the instruction at one position sends, by its frame and its rule
pub mod SentAt
-- at first the start frame is known at pc 0, and no other
pub mod FirstKnown
-- one frame that arrives is known then, merged or not, or clashes
pub mod ArrivedOnes
-- frames that arrive one after the other make the merge of all
pub mod ArrivedAll
-- what a wave sends is proper
pub mod WaveProper
-- what a wave sends is a part of what all instructions send, and the rest is below what is known
pub mod SentWaves
-- a round is what its wave sends and what arrives of it
pub mod WholeRounds
-- the rounds of the code are those of the definition, and fail at the same pcs
pub mod RoundSteps
-- the rows of known frames are in order of pc, and their table has what is known
pub mod RowTables
-- a quiet round answers the least right table, and a failing one its pc
pub mod Answering
