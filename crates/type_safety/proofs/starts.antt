-- the entry of a set is a method with a body
pub mod EntryMethod
-- the static fields of a set hold values of their types before main starts
pub mod InitialValues
-- main starts in a state that fits
pub mod TypedStarts
