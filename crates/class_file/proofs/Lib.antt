-- readers and what they are made of
pub mod readers
-- attributes, members and the class
pub mod layout
-- the table of texts
pub mod text_table
-- what the calls answer
pub mod calls
-- what the first fault means
pub mod faults
