-- The definitions of this crate.
pub mod Ends
pub mod Joint
pub mod Worked
-- what the crates above use of those below
pub use Rattle.phased_control.specs as phased_control
pub use Rattle.phased_control.specs.control_model as control_model
pub use Rattle.phased_control.specs.table_laws as table_laws
pub use Rattle.phased_control.specs.enc_phase as enc_phase
pub use Rattle.phased_control.specs.procedures as procedures
pub use Rattle.phased_control.specs.procedure_stages as procedure_stages
pub use Rattle.phased_control.specs.procedure_values as procedure_values
