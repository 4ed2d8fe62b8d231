-- the rows of switches and of tables
pub mod switches
-- instructions and their bytes, both ways
pub mod encoding
