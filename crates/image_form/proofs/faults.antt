-- What a function that gives reading's answer, unless memory ran out, says of the bytes.
pub mod Refusals
-- What is refused before any memory is asked for: the magic and the version.
pub mod AtOnce
-- Each part of an infusion is read by the prefix: what is read, and a rule that fails, stand whatever follows.
pub mod PrefixesReaders
-- Prefixes of bytes: what reading says of a prefix, and what it says of the whole.
pub mod Prefixes
-- What readers refuse for: a reader that is made of others refuses for what these do.
pub mod Raises
-- What the entries of the tables are refused for: that bytes are missed, or a rule of their own place.
pub mod TableFaults
-- A list is refused for its count or for one of its items, after good ones; and nothing by the rules begins where a reader refuses bytes that it did not miss.
pub mod TablesStop
-- What a bad entry of a table is, in words of the format.
pub mod TablesSay
