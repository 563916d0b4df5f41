-- The lemmas of this crate.
pub mod Outcomes
pub mod RangeTests
pub mod Rows
