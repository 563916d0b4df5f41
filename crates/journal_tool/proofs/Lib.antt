-- The lemmas of this crate.
pub mod Counts
pub mod Growth
pub mod Named
