-- what an accepted set keeps to
pub mod NoRefusals
-- the places of fields
pub mod FieldPlaces
-- the code of an accepted set is wide
pub mod WideSets
-- the results of bodies
pub mod DeclaredResults
-- the split machine follows
pub mod BuiltFollows
-- moves of the split machine keep answers: their forms
pub mod KeptAnswers
-- at operands, locals, numbers, jumps and statics
pub mod PlainAnswers
-- at fields and types
pub mod FieldAnswers
-- at arrays
pub mod ArrayAnswers
-- at calls, returns and throws
pub mod CallAnswers
-- the split machine asks for what is answered
pub mod SplitAnswers
-- runs of accepted sets are alike
pub mod AlikeRuns
