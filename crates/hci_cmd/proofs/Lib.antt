-- The lemmas of this crate.
pub mod Parameters
pub mod Counts
pub mod Opcodes
