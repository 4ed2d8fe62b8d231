pub mod Writes
pub mod Layouts
pub mod Orders
pub mod Sizes
pub mod Places
pub mod Statics
