mod Folds
mod Numbered
mod LastWrites
mod KeptNumbers
mod OwnClasses
mod ShownTypes
mod ObjectFields
mod DescriptorTexts
-- the bodies of a set, class by class
pub mod ClassBodies
-- the part of a list that is of one class
pub mod SortedParts
mod ObjectSizes
mod LargeObjects
mod ClassTypes
mod PlacesAmong
mod ClassFields
mod Placing
mod StaticFields
mod NumberedSets
