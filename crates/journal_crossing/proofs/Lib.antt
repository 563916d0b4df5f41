-- The lemmas of this crate.
pub mod TakenPdus
pub mod CountedLines
pub mod EndLines
pub mod OneTaken
pub mod TakingCalls
pub mod AllTaken
pub mod AfterTermination
-- what the crates above use of those below
pub use Rattle.journal_collisions.proofs.journal_endings.controller_model as controller_model
pub use Rattle.journal_collisions.proofs as journal_collisions
pub use Rattle.journal_collisions.proofs.journal_endings.journal_indications.journal_data as journal_data
pub use Rattle.journal_collisions.proofs.journal_endings.journal_indications.journal_data.journal_links as journal_links
pub use Rattle.journal_collisions.proofs.journal_endings.journal_indications.journal_data.run_model as run_model
