-- each method of a file that is read has a type
pub mod ReadMethods
-- each method of a set that links has a body
pub mod MethodBodies
-- files are linked to one set at most
pub mod OneLinked
-- the phase of types passes a closed set whose methods have bodies just where each of them has least types
pub mod TypedCode
-- the files that pass the phases up to that of types are linked, and others are not
pub mod LinkedSets
-- each phase has one answer for each set, and so the verdict is one; and an accepted set has one image
pub mod SetVerdicts
