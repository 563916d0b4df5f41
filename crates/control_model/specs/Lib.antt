-- The definitions of this crate.
pub mod Control
pub mod Waits
pub mod Worked
pub mod Supported
-- what the crates above use of those below
pub use Rattle.procedures.specs.procedure_stages as procedure_stages
pub use Rattle.procedures.specs.procedure_values as procedure_values
pub use Rattle.procedures.specs as procedures
