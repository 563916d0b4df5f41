-- The definitions of this crate.
pub mod Ccm
pub mod Payload
