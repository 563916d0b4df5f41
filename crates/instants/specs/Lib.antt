-- The definitions of this crate.
pub mod Arrivals
pub mod Follows
pub mod Parameters
pub mod Track
