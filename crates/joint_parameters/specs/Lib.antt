-- The definitions of this crate.
pub mod Indications
pub mod Turns
pub mod Views
pub mod Worked
-- what the crates above use of those below
pub use Rattle.joint_controls.specs as joint_controls
pub use Rattle.joint_controls.specs.phased_control as phased_control
pub use Rattle.joint_controls.specs.control_model as control_model
pub use Rattle.joint_controls.specs.table_laws as table_laws
pub use Rattle.joint_controls.specs.procedures as procedures
pub use Rattle.joint_controls.specs.procedure_stages as procedure_stages
pub use Rattle.joint_controls.specs.enc_phase as enc_phase
pub use Rattle.joint_controls.specs.procedure_values as procedure_values
