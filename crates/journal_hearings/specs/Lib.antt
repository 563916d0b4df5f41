-- The definitions of this crate.
pub mod Requests
pub mod Connects
pub mod Taken
pub mod Settings
pub mod Openings
pub mod Rows
