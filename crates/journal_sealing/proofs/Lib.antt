-- The lemmas of this crate.
pub mod SealedLines
pub mod SameSent
pub mod SealedEvents
pub mod SealedKeys
pub mod Sessions
pub mod LedLinks
pub mod SealedEnds
pub mod KeptSealing
pub mod NewPdus
pub mod Forged
pub mod Mixed
pub mod Judged
pub mod HeardAir
pub mod HeardMixed
pub mod UnmixedEnds
pub mod EndNumbers
-- what the crates above use of those below
pub use Rattle.journal_controls.proofs as journal_controls
pub use Rattle.journal_acks.proofs as journal_acks
pub use Rattle.link_runs.proofs as link_runs
pub use Rattle.run_pairs.proofs as run_pairs
