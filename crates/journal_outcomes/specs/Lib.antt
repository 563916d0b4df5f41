-- The definitions of this crate.
pub mod Done
pub mod Numbering
pub mod Rows
-- what the crates above use of those below
pub use Rattle.journal_crossing.specs as journal_crossing
pub use Rattle.journal_crossing.specs.journal_collisions as journal_collisions
pub use Rattle.journal_crossing.specs.journal_collisions.journal_ends as journal_ends
pub use Rattle.journal_crossing.specs.journal_collisions.journal_endings.link_runs as link_runs
pub use Rattle.journal_crossing.specs.journal_collisions.journal_endings.link_calls as link_calls
pub use Rattle.journal_crossing.specs.controller_model as controller_model
