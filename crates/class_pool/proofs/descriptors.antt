-- Scanning a text byte by byte, as loops do.
pub mod Scans
-- A class name is read up to its `;`, and what is read is one.
pub mod ClassNames
-- A type is read where it is encoded, and what is read is one.
pub mod FieldTypes
-- Parameters and the descriptor of a method are read where they are encoded, and what is read is one.
pub mod Parameters
-- What follows the parts of a descriptor is found without their values, and with it whether a text is one.
pub mod Skips
-- What a call answers, where reading gives each value for its texts and no other.
pub mod Calls
