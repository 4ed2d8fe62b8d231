-- a frame and one above it as pairs of types, and what operations on lists do to pairs
pub mod Pairs
-- tests of operands that pass for a type where they pass for one above it
pub mod Tests
-- types that instructions push of themselves: of the set, and of values that are known and constructed or new
pub mod Values
-- rules by which operands are taken and others pushed
pub mod Moves
-- rules by which operands move on the stack as they are
pub mod Restacks
-- the rule by which a reference is read of an array
pub mod Arrays
-- rules on objects that are not yet constructed
pub mod Objects
-- each instruction's rule leads from types of the set to types of the set, and holds in frames below
pub mod RuleOf
