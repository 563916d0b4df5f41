-- The lemmas of this crate.
pub mod Beginnings
pub mod Meanings
pub mod Unawaited
pub mod Versions
-- what the crates above use of those below
pub use Rattle.procedure_stages.proofs.procedure_values as procedure_values
