pub mod Written
pub mod Entries
pub mod Draft
pub mod Numbered
