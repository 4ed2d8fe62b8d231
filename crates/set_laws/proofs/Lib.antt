-- methods with code stand in classes of the set, and their instructions in order
pub mod CodedMethods
-- the phase of types has one answer for each set
pub mod TypedSets
-- each phase up to that of types has one answer for each set
pub mod EarlyPhases
