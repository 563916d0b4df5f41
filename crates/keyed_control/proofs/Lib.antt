-- The lemmas of this crate.
pub mod Halves
pub mod Phases
-- what the crates above use of those below
pub use Rattle.phased_control.proofs as phased_control
