-- what an operand's reader took from the bytes, and that what was encoded is read
pub mod Bytes
-- what it takes that a reader's answer is right, form by form of operands
pub mod Forms
-- each family's reader is right: the instruction that it found is encoded in the bytes
pub mod Families
-- the reader is right, group by group of first bytes: the instruction that it found is encoded in the bytes
pub mod Groups
-- what is encoded is read, whatever follows
pub mod Again
-- what is found at the prefix of the bytes, and only that, is encoded there
pub mod Decode
-- an instruction has one encoding: its rows are those that are read
pub mod EncodingIsInjective
-- rows that are written one by one
pub mod Written
