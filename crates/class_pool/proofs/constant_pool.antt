-- Modified UTF-8: the test says what the units say.
pub mod Texts
-- An entry is a tag and the parts after it.
pub mod Parts
-- What follows a tag is read where it is encoded so, and is refused where it is cut or no text.
pub mod Bodies
-- An entry is read where it is encoded, and refused where it is refused.
pub mod Entries
-- Places are read one after the other where they are encoded, up to the first entry that is refused.
pub mod SlotLists
-- The first entry of a pool that names what is not there.
pub mod Linked
-- A pool is read where it is encoded, and bytes are refused for what is wrong first.
pub mod Pools
-- Where the places of a pool have no entry.
pub mod Spacing
-- Reading places one after the other, as a loop does.
pub mod Loop
-- What a reading function answered, against what reading gives.
pub mod Steps
-- The constant pool is read by the prefix: what is read of it, and a fault, holds whatever follows.
pub mod Steady
