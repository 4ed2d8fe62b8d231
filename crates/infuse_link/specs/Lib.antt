pub mod Infused
pub mod Sets
pub mod Stages
