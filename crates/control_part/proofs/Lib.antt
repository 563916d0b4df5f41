-- The lemmas of this crate.
pub mod Outs
-- what the crates above use of those below
pub use Rattle.control_end.proofs as control_end
