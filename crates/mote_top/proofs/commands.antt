-- words are one command at most
pub mod Commands
-- the names of a command are at their places among the words
pub mod Positions
-- the words of options are read in one way
pub mod OptionWords
-- the parts of commands: how each begins a command, and what may come after it
pub mod WordParts
-- what may come after the parts of commands, and words that are no command
pub mod WordFaults
-- what reading a word more makes of the parts of commands
pub mod WordSteps
-- what the tests of words tell
pub mod WordTests
