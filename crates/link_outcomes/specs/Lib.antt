-- The definitions of this crate.
pub mod Lasting
pub mod Answered
pub mod Rows
