-- The lemmas of this crate.
pub mod Calls
pub mod Central
pub mod Indicating
pub mod Moving
pub mod Outcomes
pub mod Sending
pub mod Waiting
-- what the crates above use of those below
pub use Rattle.procedures.proofs.procedure_values as procedure_values
