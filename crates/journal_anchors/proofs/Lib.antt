-- The lemmas of this crate.
pub mod RunPlaces
mod NextAnchors
-- what the crates above use of those below
pub use Rattle.journal_sending.proofs as journal_sending
