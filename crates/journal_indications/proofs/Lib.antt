-- The lemmas of this crate.
pub mod LineEnds
pub mod InTime
pub mod Receptions
pub mod FarEnds
pub mod ReadAsSent
-- what the crates above use of those below
pub use Rattle.journal_agreement.proofs.journal_data as journal_data
