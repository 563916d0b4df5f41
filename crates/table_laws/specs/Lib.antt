-- The definitions of this crate.
pub mod Waiting
pub mod Pasts
pub mod Sent
pub mod Ending
pub mod Encrypting
pub mod Exclusive
pub mod Quiet
pub mod Worked
-- what the crates above use of those below
pub use Rattle.procedures.specs as procedures
pub use Rattle.procedures.specs.procedure_stages as procedure_stages
pub use Rattle.procedures.specs.procedure_values as procedure_values
