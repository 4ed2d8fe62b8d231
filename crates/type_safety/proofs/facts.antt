-- the keys of switches are in order
pub mod SwitchKeys
-- the whole numbers of constant pools have 32 bits
pub mod PoolNumbers
-- what is above a class by each way up, and where lookups that go up end
pub mod ClassWays
-- what is read of a class file keeps the rules of its members
pub mod ReadRules
-- a method that is read has few arguments
pub mod ArgumentSlots
-- each row of a switch has some of the bytes of its code
pub mod RowReads
-- a switch has at most as many rows as its code has bytes
pub mod RowCounts
-- the files of a set are read, and their code fits
pub mod CodeRead
-- what a class declares by a name and a descriptor
pub mod Declared
-- the bodies of a set, and the methods whose they are
pub mod CodedBodies
-- where control goes in a body there are instructions
pub mod Control
-- each body stands in a class of the set, and its control stays within it
pub mod CodeStanding
-- what is reached of a method's instructions is reached in its body
pub mod BodyReach
-- descriptors of fields name types of the set
pub mod FieldKinds
-- the fields that instructions name are there
pub mod NamedFields
-- the methods of the library
pub mod LibraryMethods
-- a method with code that is found runs, and a constructor has no result
pub mod RunMethods
-- what lookups of methods find
pub mod FoundMethods
-- the methods that calls name are there, and what is selected for them runs
pub mod NamedMethods
-- the methods that invokespecial names
pub mod NamedSpecial
-- calls, switches and arrays of a set count little
pub mod FewCounts
-- a typed call of a constructor names a class that is no interface
pub mod ConstructorCalls
-- what each instruction names is there, and it counts little
pub mod NamedOps
-- all facts of a body of a set
pub mod PhaseFacts
