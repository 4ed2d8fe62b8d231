-- the parts of the format, written and read
pub mod format
-- what the first fault means
pub mod faults
