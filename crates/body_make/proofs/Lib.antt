-- tests of subclasses and of access, as the definitions of the uses of members ask for them
mod TestedAccess
-- a refusal where a test of a class says so, which has a file
mod Refusing
-- lists that grow by items, one for each item of another list
mod Adding
-- what instructions and rows name, at their places in the code
mod Placed
-- what a method overrides
mod Overridden
-- what a class has above it, among the classes that have files
mod FilesAbove
-- the first file that has a main
mod Entries
-- what the code of a method names: its instructions, and then the rows of its exception table
mod CodeNamed
-- what an instruction of an initialiser does, by the tests that it passes
mod Initialised
-- the bodies of the methods of classes, method by method and class by class
mod ClassBodies
-- a set has one refusal of its classes and its entry, or none
mod Unlinked
