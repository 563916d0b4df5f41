-- The definitions that the contracts of this crate cite.
pub mod Counts
pub mod Lawful
pub mod Ending
pub mod Short
