-- The definitions of this crate.
pub mod Sample
pub mod Refused
