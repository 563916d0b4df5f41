-- The definitions of this crate.
pub mod Header
pub mod Pdu
pub mod Ranges
pub mod Reading
