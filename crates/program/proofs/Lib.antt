-- The lemmas of this crate.
pub mod Growth
pub mod Endings
pub mod Digits
pub mod Completeness
pub mod Named
pub mod Loads
