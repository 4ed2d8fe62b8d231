-- references by their dimensions and bases
pub mod RefParts
-- the merge of two references
pub mod Merging
-- it does not matter which two of three references merge first
pub mod Associating
-- a reference fits a class that is no interface exactly where it is below it
pub mod SubtypeFits
-- the merge of two types of values
pub mod MergeLaws
