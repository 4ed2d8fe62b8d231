-- the merge of two types of a set is a type of the set, and it is their join
pub mod TypeMerges
-- the merge of two lists of types is their join
pub mod ListMerges
-- the merge of two frames is the least frame above both, and it is proper where both are
pub mod Frames
