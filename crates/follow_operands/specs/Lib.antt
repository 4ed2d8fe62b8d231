pub mod WideShapes
