-- The definitions of this crate.
pub mod Short
pub mod Rows
