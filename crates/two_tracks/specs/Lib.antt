-- The definitions of this crate.
pub mod Reached
pub mod TwoEnds
pub mod Worked
