-- The lemmas of this crate.
pub mod BothEnds
mod CountedPdus
pub mod InOrder
mod WrongReadings
-- what the crates above use of those below
pub use Rattle.journal_data.proofs as journal_data
