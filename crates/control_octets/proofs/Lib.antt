-- The lemmas of this crate.
pub mod Outcomes
pub mod Pdus
pub mod Queues
pub mod Steps
-- what the crates above use of those below
pub use Rattle.control_model.proofs as control_model
