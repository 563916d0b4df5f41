-- The definitions of this crate.
pub mod Answers
pub mod CentralPart
pub mod Parts
pub mod PeripheralPart
pub mod SubLists
pub mod Untaken
-- what the crates above use of those below
pub use Rattle.procedures.specs as procedures
pub use Rattle.procedure_stages.specs as procedure_stages
pub use Rattle.procedure_values.specs as procedure_values
