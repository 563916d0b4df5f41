-- The definitions of this crate.
pub mod Since
pub mod Waiting
pub mod Sealing
pub mod Skipping
pub mod Rules
pub mod Rows
-- what the crates above use of those below
pub use Rattle.journal_events.specs as journal_events
