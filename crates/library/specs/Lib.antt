pub mod Classes
pub mod Natives
pub mod Members
