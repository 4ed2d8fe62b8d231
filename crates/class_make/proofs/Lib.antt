-- the derived test of two constants is the test of specs/Entries.antt
pub mod Equality
-- where an entry stands in a pool
pub mod Slots
-- constants with the indexes of their places: what a look-up finds, and what stays numbered
pub mod Numbered
-- the records that the calls of a draft make
pub mod Drafts
-- bytes that are appended piece by piece
pub mod Appended
-- the names of attributes: where a text stands in a pool
pub mod Names
-- a layout without its skipped attributes: it fits, keeps the rules, has the same record, and is no longer
pub mod Bare
-- a record that some bytes have is written as a class file with this record
pub mod Validity
-- parts of records that are the same
pub mod Pairs
-- what reading says of a record that was written
pub mod Tested
-- the pieces of a class file are appended one after the other
pub mod Pieces
