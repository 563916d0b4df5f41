-- The lemmas of this crate.
pub mod Bits
pub mod Rows
pub mod Octets
pub mod Places
pub mod Values
