-- The definitions of this crate.
pub mod Failures
pub mod Rows
-- what the crates above use of those below
pub use Rattle.journal_outcomes.specs as journal_outcomes
