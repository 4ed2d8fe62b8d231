-- Each part of a class file is read by the prefix: what is read, and a fault, stand whatever follows.
pub mod PrefixesReaders
-- Prefixes of bytes: what reading says of a prefix, and what it says of the whole.
pub mod Prefixes
-- What readers refuse for: a reader that is made of others refuses for what these do.
pub mod Raises
-- Parts other than the pool refuse for bytes that are missed, a rule of the shape or a descriptor alone.
pub mod PlainParts
-- Where a reader refuses bytes that it did not miss, no good part begins, whatever follows them.
pub mod BeginsNone
-- A list of members is refused for one of them, after good ones; and where a descriptor is none.
pub mod MembersStop
-- What truncated bytes and a bad pool are, in words of the format.
pub mod FaultsSay
-- What a bad descriptor is, in words of the format.
pub mod DescriptorsSay
-- What a bad shape is, in words of the format: the part that is not there by the rules, after good ones.
pub mod ShapeSays
