-- the table of what leads where
pub mod Leading
-- the subtypes of a type, by dimensions and bases
pub mod Subtyping
-- no class is above itself, so a rank falls on the way up
pub mod Acyclic
-- superclasses and superinterfaces stand directly above
pub mod SupersAbove
-- each class but java/lang/Object has a superclass in the set
pub mod Superclasses
-- walks to superclasses: what two have in common begins at one class
pub mod Forest
-- the first common superclass is the least class above both
pub mod CommonSuper
