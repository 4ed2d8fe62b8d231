pub mod Insn
pub mod Reading
pub mod Effect
pub mod Switch
