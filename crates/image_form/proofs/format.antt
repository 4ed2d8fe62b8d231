-- What a reader takes is encoded there, it takes each encoding again, and refuses for a rule of a table or the end.
pub mod Readers
-- The types of an image are read exactly.
pub mod TypeParts
-- The selectors and the methods of an image are read exactly.
pub mod MethodParts
-- The rows of all classes are matched exactly where each has one signature.
pub mod Matching
-- The parts after the version are read exactly: tables, statics and main, and then the rows are matched.
pub mod ImageParts
-- All the bytes: what an answer says of them, and which answer encodings get.
pub mod Whole
-- Reading items one after the other, as a loop does.
pub mod Items
-- The first entry of the types with a row that is not matched, as a loop finds it.
pub mod Unmatched
-- What was written, one part after the other.
pub mod Written
