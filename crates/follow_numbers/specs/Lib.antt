pub mod WideCode
