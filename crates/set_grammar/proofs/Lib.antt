-- what each item of a list meets
pub mod EachItems
-- typed code, and its start
pub mod TypedSets
-- how many methods there are
pub mod MethodCounts
-- the arguments are among the locals
pub mod DeclaredLocals
-- slots and cells of what is passed
pub mod PassedArguments
-- signatures
pub mod MethodSignatures
-- instructions that do not go on
pub mod EndingInsns
-- code is not empty
pub mod SomeCode
-- the statics
pub mod SetStatics
-- main
pub mod SetMain
-- the methods
pub mod SetMethods
-- initialisers take nothing
pub mod ReadInitialisers
-- the selectors
pub mod SetSelectors
-- no selector has the name of an initialiser
pub mod PlainSelectors
-- the types are the classes
pub mod ShownTypes
-- fields of objects
pub mod ObjectLayouts
-- rows of classes
pub mod ClassRows
-- counts of class files
pub mod ReadCounts
-- what stands above a class
pub mod ClassUppers
-- the types
pub mod SetTypes
-- the rows
pub mod SetRows
-- all parts
pub mod SetGrammars
