-- each body of a set is one of the classes of the set
pub mod OfSets
