-- The lemmas of this crate.
pub mod Names
pub mod Parts
pub mod RowCounts
pub mod Spelling
pub mod Steps
