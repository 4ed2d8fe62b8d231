-- A flag as a bit.
pub mod Bits
-- Attributes of which only the name is asked (JVMS 4.7).
pub mod Attributes
-- The Code attribute (JVMS 4.7.3).
pub mod Codes
-- The attributes of fields and methods (JVMS 4.7.2, 4.7.3).
pub mod MemberAttributes
-- Members that differ from those before them are distinct.
pub mod Distinct
-- Fields and methods (JVMS 4.5, 4.6).
pub mod Members
-- The parts of a class file in their order (JVMS 4.1).
pub mod ClassParts
-- What follows the magic is that of a layout.
pub mod Body
-- What is read is a class file, each class file is read, and other bytes are refused for what is wrong first.
pub mod Whole
