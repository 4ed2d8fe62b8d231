-- lists of items with keys
pub mod KeyedLists
-- the typed body of each method
pub mod FoundCode
-- the methods of the image by their ids
pub mod PlacedMethods
-- a linked set is compiled
pub mod CompiledSets
