-- The definitions of this crate.
pub mod EventLines
pub mod Told
pub mod Skips
pub mod Rows
-- what the crates above use of those below
pub use Rattle.journal_sending.specs.journal_leaving as journal_leaving
pub use Rattle.journal_sending.specs as journal_sending
pub use Rattle.journal_slots.specs as journal_slots
