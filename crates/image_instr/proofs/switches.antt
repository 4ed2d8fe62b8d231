-- the test that keys rise, row by row
pub mod RowTests
-- the rows of a switch and the targets of a table, as they stand in the code
pub mod Rows
-- the search for a key among the targets in the code
pub mod Targets
-- what is at the prefix of the bytes of a switch and of a table
pub mod SwitchPrefix
-- the search for a key among rows in the code whose keys rise
pub mod Search
