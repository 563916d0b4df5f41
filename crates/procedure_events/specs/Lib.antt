-- The definitions of this crate.
pub mod Events
pub mod Calls
-- what the crates above use of those below
pub use Rattle.link_model.specs.procedures as procedures
pub use Rattle.procedure_stages.specs as procedure_stages
