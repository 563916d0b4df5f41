-- The definitions of this crate.
pub mod Forgeries
-- what the crates above use of those below
pub use Rattle.journal_sealing.specs as journal_sealing
pub use Rattle.journal_sealing.specs.journal_controls as journal_controls
pub use Rattle.run_keys.specs.run_pairs as run_pairs
pub use Rattle.journal_sealing.specs.link_runs as link_runs
pub use Rattle.run_keys.specs.run_pairs.link_calls as link_calls
pub use Rattle.run_keys.specs as run_keys
pub use Rattle.journal_sealing.specs.journal_acks as journal_acks
