-- The definitions of this crate.
pub mod Indications
pub mod Taken
pub mod Rows
-- what the crates above use of those below
pub use Rattle.journal_data.specs as journal_data
