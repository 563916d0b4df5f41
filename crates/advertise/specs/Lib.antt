-- The definitions of this crate.
pub mod Advertising
pub mod Answers
pub mod Defaults
pub mod Rows
