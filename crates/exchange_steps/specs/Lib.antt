-- The definitions of this crate.
pub mod Answers
pub mod Ends
pub mod Steps
-- what the crates above use of those below
pub use Rattle.procedures.specs as procedures
pub use Rattle.procedure_stages.specs as procedure_stages
pub use Rattle.exchange_pairs.specs as exchange_pairs
pub use Rattle.procedure_values.specs as procedure_values
