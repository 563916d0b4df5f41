-- The definitions of this crate.
pub mod SecondSlot
pub mod Rows
