-- The lemmas of this crate.
pub mod Layouts
pub mod LittleEndian
pub mod Spelling
pub mod Making
