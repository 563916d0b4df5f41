-- The lemmas of this crate.
pub mod HostReasons
pub mod KeyedReasons
pub mod EndReasons
pub mod EndingProcedures
pub mod CallsKeep
pub mod PairedEnds
pub mod KeptInRuns
pub mod NoneEnds
-- what the crates above use of those below
pub use Rattle.controller_model.proofs as controller_model
pub use Rattle.journal_indications.proofs as journal_indications
pub use Rattle.link_calls.proofs as link_calls
pub use Rattle.link_runs.proofs as link_runs
pub use Rattle.journal_indications.proofs.journal_data.run_pairs as run_pairs
