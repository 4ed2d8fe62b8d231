pub mod Linked
pub mod LinkRefusals
