-- The definitions of this crate.
pub mod Masks
pub mod Rows
