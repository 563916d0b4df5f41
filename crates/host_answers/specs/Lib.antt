-- The definitions of this crate.
pub mod Answered
pub mod Flows
pub mod Calls
pub mod Rows
