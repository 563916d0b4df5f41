-- The definitions of this crate.
pub mod Endings
pub mod Rows
-- what the crates above use of those below
pub use Rattle.controller_model.specs as controller_model
pub use Rattle.journal_indications.specs as journal_indications
pub use Rattle.link_calls.specs as link_calls
pub use Rattle.link_runs.specs as link_runs
pub use Rattle.journal_indications.specs.journal_data.run_pairs as run_pairs
