-- The lemmas of this crate.
pub mod Counting
pub mod Directions
pub mod Links
pub mod Nonempties
