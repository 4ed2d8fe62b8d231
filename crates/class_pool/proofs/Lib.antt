-- the constant pool: its texts, its entries, and reading it
pub mod constant_pool
-- descriptors of fields and methods
pub mod descriptors
