-- The lemmas of this crate.
mod Splits
mod Places
mod PduPlaces
mod SaidLines
mod NotDone
mod NotedEnds
mod NamedEnds
mod AnsweredLines
mod NumberedLines
-- what the crates above use of those below
pub use Rattle.journal_crossing.proofs as journal_crossing
pub use Rattle.journal_crossing.proofs.journal_collisions as journal_collisions
pub use Rattle.journal_crossing.proofs.journal_collisions.journal_ends as journal_ends
pub use Rattle.journal_crossing.proofs.journal_collisions.journal_endings.link_runs as link_runs
pub use Rattle.journal_crossing.proofs.journal_collisions.journal_endings.link_calls as link_calls
pub use Rattle.journal_crossing.proofs.controller_model as controller_model
