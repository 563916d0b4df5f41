-- The definitions of this crate.
pub mod Facts
pub mod FirstPdus
pub mod Arrivals
pub mod Views
-- what the crates above use of those below
pub use Rattle.collision_steps.specs as collision_steps
pub use Rattle.joint_controls.specs as joint_controls
pub use Rattle.joint_controls.specs.control_model as control_model
pub use Rattle.joint_controls.specs.procedures as procedures
pub use Rattle.joint_controls.specs.procedure_values as procedure_values
pub use Rattle.joint_controls.specs.procedure_stages as procedure_stages
