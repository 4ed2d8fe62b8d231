-- answers: what is said of one reply holds of a wider choice, and the line after it completes it
pub mod Answering
-- what a reply that a call may give says of the words, of the shelf, and of what is kept
pub mod Causes
-- which replies a call may give
pub mod Choices
-- files that are loaded one by one
pub mod Loads
-- a call keeps its promises, by its reply
pub mod Keeping
-- what follows from the promises
pub mod Lasting
-- a set has one verdict
pub mod SetLaws
-- noting a list of bytes, byte by byte
pub mod Notes
-- what the run of a mote answers is the reply of its image
pub mod RunAnswers
-- what runs of images and refusals are as replies of sets and of infusions
pub mod Sets
-- what a store changes of what is kept
pub mod Stores
-- the names of types are small
pub mod NameSizes
-- what a run of a new mote answers
pub mod NewMotes
