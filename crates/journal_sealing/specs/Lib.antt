-- The definitions of this crate.
pub mod SealedLines
pub mod NewPdus
pub mod Forged
pub mod Mixed
pub mod Sessions
pub mod Judged
pub mod Rows
-- what the crates above use of those below
pub use Rattle.journal_controls.specs as journal_controls
pub use Rattle.journal_acks.specs as journal_acks
pub use Rattle.link_runs.specs as link_runs
pub use Rattle.run_pairs.specs as run_pairs
