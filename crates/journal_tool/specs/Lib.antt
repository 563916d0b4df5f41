-- The definitions that the contracts of this crate cite.
pub mod Writing
pub mod Causes
pub mod Endings
