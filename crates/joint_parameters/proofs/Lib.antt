-- The lemmas of this crate.
pub mod Arriving
pub mod Codes
pub mod Drafts
pub mod Ends
pub mod Equal
pub mod Hearing
pub mod Linking
pub mod Meeting
pub mod Outcomes
pub mod Pairing
pub mod Passing
pub mod PlainEnds
pub mod Runs
pub mod Taking
pub mod Tracks
-- what the crates above use of those below
pub use Rattle.joint_controls.proofs as joint_controls
pub use Rattle.joint_controls.proofs.phased_control as phased_control
pub use Rattle.joint_controls.proofs.control_model as control_model
pub use Rattle.joint_controls.proofs.table_laws as table_laws
