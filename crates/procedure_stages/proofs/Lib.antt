-- The lemmas of this crate.
-- what the crates above use of those below
pub use Rattle.procedure_values.proofs as procedure_values
