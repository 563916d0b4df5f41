-- The lemmas of this crate.
pub mod Agreeing
pub mod Alone
pub mod AloneSteps
pub mod AloneTaking
pub mod Answers
pub mod CentralEnd
pub mod CentralJoint
pub mod CentralSteps
pub mod CentralTakes
pub mod Colliding
pub mod CollisionLaws
pub mod DownMeanings
pub mod EachStep
pub mod Fixing
pub mod Instants
pub mod Meanings
pub mod NextRejection
pub mod PeripheralEnd
pub mod PeripheralJoint
pub mod PeripheralPhase
pub mod PeripheralSteps
pub mod PeripheralTakes
pub mod Reaching
pub mod Readings
pub mod Findings
pub mod RejectedNext
pub mod Replies
pub mod Resting
pub mod Runs
pub mod Sending
pub mod Terminated
-- what the crates above use of those below
pub use Rattle.collision_steps.proofs as collision_steps
pub use Rattle.joint_controls.proofs as joint_controls
pub use Rattle.joint_controls.proofs.control_model as control_model
