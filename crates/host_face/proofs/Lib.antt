-- what the files of a map from names to bytes have at a name, and how a change of the map changes them
pub mod Files
-- dialogues on a console, one after the other
pub mod TalkLemmas
