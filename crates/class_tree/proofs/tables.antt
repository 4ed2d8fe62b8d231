-- rows of a table, as vectors and as lists
pub mod Rows
-- an item of a list is found, seen by a view
pub mod Finding
-- a scan of a list for the first refusal
pub mod Scans
-- lists of names
pub mod NameLists
-- indexes of files, one for each
pub mod IndexLists
-- how many numbers pass a test
pub mod Counting
-- numbers of classes by their names
pub mod Numbers
-- the name of a class that has a file
pub mod NamesOf
-- numbers of classes stay below those of the library and of the files
pub mod Within
-- lists of what is wrong with the texts of a pool
pub mod Faults
-- the table of what stands directly above what
pub mod Tables
-- classes that are added to those that were seen
pub mod Seen
