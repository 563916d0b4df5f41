-- The definitions of this crate.
pub mod Access
pub mod Addresses
pub mod Initiating
pub mod Reports
pub mod Rows
pub mod Windows
