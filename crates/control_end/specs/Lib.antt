-- The definitions of this crate.
pub mod Held
pub mod Answers
pub mod Following
pub mod Reached
-- what the crates above use of those below
pub use Rattle.control_model.specs as control_model
pub use Rattle.control_model.specs.procedures as procedures
pub use Rattle.control_model.specs.procedure_stages as procedure_stages
pub use Rattle.control_model.specs.procedure_values as procedure_values
