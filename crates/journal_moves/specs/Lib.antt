-- The definitions of this crate.
pub mod Doing
pub mod Moves
pub mod Verdicts
pub mod Owed
pub mod Rows
-- what the crates above use of those below
pub use Rattle.journal_wants.specs.journal_events as journal_events
pub use Rattle.journal_wants.specs as journal_wants
pub use Rattle.journal_anchors.specs as journal_anchors
