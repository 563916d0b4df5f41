-- The lemmas of this crate.
pub mod Phases
pub mod Keeping
pub mod OtherDone
-- what the crates above use of those below
pub use Rattle.link_procedures.proofs as link_procedures
