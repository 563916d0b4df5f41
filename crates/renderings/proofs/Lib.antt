-- The lemmas of this crate.
pub mod PacketsLeft
pub mod Rest
pub mod Rows
pub mod RowsLeft
