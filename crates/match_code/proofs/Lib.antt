-- where expansions stand in the code, and how offsets grow
pub mod CodeLayout
-- what code follows at a point within an expansion
pub mod CodePoints
-- the move at a machine instruction, and going on over it
pub mod CodeMoves
-- where frames that match stand
pub mod MatchedCode
-- offsets are in the order of pcs
pub mod CodeOrder
-- the row that handles a throw is that of the body
pub mod CodeHandlers
-- moves of which the account sees nothing
pub mod QuietMoves
-- the instructions that change cells alone
pub mod QuietInsns
-- several of them, one after another
pub mod QuietRuns
-- what extends parameters at entry
pub mod QuietEntry
-- the rows of switches keep to their limits
pub mod SwitchRows
-- emitted instructions whose numbers are of their types are machine instructions
pub mod EmittedInsns
