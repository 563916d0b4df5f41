-- The definitions of this crate.
pub mod Asks
pub mod Values
pub mod Wants
pub mod Limits
pub mod Drafts
