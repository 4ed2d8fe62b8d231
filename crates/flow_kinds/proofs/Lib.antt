-- the first class on the way up that passes a test, along a list of classes that leads up
pub mod WayClasses
-- merges and fits of references, case by case, by their dimensions and bases
pub mod KindCases
