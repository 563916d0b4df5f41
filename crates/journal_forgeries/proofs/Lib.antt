-- The lemmas of this crate.
pub mod SentNow
pub mod PacketEnds
pub mod AirEnds
pub mod ForgedLines
-- what the crates above use of those below
pub use Rattle.journal_sealing.proofs as journal_sealing
pub use Rattle.journal_sealing.proofs.journal_controls as journal_controls
pub use Rattle.journal_sealing.proofs.journal_acks as journal_acks
pub use Rattle.journal_data.proofs as journal_data
pub use Rattle.run_keys.proofs as run_keys
pub use Rattle.run_keys.proofs.run_pairs as run_pairs
pub use Rattle.journal_sealing.proofs.link_runs as link_runs
