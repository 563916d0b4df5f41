-- The definitions of this crate.
pub mod Holding
pub mod Winner
