-- The definitions of this crate.
pub mod Drawn
pub mod Rows
