pub mod CallTurns
pub mod Leaving
pub mod Quiet
pub mod Reads
pub mod Shows
