-- The definitions of this crate.
pub mod Calls
pub mod Ciphers
pub mod Ends
pub mod PhaseChanges
pub mod Phased
pub mod Steps
pub mod Taken
pub mod Worked
-- what the crates above use of those below
pub use Rattle.control_model.specs as control_model
pub use Rattle.table_laws.specs as table_laws
pub use Rattle.control_model.specs.procedures as procedures
pub use Rattle.control_model.specs.procedure_stages as procedure_stages
pub use Rattle.enc_phase.specs as enc_phase
pub use Rattle.control_model.specs.procedure_values as procedure_values
