-- The lemmas of this crate.
pub mod Events
pub mod Takings
