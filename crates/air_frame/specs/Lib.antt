-- The definitions of this crate.
pub mod Advertising
pub mod Hearing
pub mod Packet
