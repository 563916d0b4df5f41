-- The definitions of this crate.
pub mod AirBits
pub mod Crc
pub mod Whitening
