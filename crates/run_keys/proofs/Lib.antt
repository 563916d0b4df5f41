-- The lemmas of this crate.
pub mod OneKey
pub mod OnAirPlaces
pub mod OnAirEnds
pub mod Forgeries
-- what the crates above use of those below
pub use Rattle.run_pairs.proofs as run_pairs
