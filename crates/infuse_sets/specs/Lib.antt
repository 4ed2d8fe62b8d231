pub mod TypedBodies
pub mod LaidBodies
