-- The definitions of this crate.
pub mod Anchors
pub mod Rows
-- what the crates above use of those below
pub use Rattle.journal_sending.specs as journal_sending
