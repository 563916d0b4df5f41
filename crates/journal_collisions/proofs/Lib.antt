-- The lemmas of this crate.
pub mod NextLines
pub mod RefusedLines
pub mod EachStep
pub mod QuietCentrals
pub mod Waits
pub mod Continues
pub mod SentCalls
pub mod RunsNoted
pub mod LineOrder
pub mod EndLines
pub mod CollidingLines
pub mod Endings
pub mod RejectedNext
pub mod Openings
pub mod SendingNotes
pub mod Unrefused
pub mod Indicated
pub mod Worked
-- what the crates above use of those below
pub use Rattle.journal_endings.proofs as journal_endings
pub use Rattle.run_collisions.proofs as run_collisions
pub use Rattle.journal_ends.proofs as journal_ends
