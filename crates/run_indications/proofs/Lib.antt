-- The lemmas of this crate.
pub mod TookNotes
pub mod LastSent
pub mod Calls
-- what the crates above use of those below
pub use Rattle.run_pairs.proofs as run_pairs
