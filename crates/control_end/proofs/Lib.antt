-- The lemmas of this crate.
pub mod Depending
pub mod Grants
pub mod Handing
pub mod Kept
pub mod Reaching
pub mod Room
pub mod Sendable
-- what the crates above use of those below
pub use Rattle.control_model.proofs as control_model
pub use Rattle.table_laws.proofs as table_laws
pub use Rattle.control_model.proofs.procedure_values as procedure_values
