-- The lemmas of this crate.
pub mod ControlRuns
pub mod EachEnd
pub mod EndSteps
pub mod Keeping
pub mod LastPdus
pub mod Running
-- what the crates above use of those below
pub use Rattle.phased_control.proofs as phased_control
pub use Rattle.phased_control.proofs.control_model as control_model
pub use Rattle.phased_control.proofs.table_laws as table_laws
