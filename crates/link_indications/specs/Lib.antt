-- The definitions of this crate.
pub mod InTime
pub mod Rows
