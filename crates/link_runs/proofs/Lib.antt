-- The lemmas of this crate.
pub mod ByTurns
pub mod EventsKept
pub mod Exchanges
pub mod GoingOn
pub mod Meeting
pub mod OneTurn
pub mod Shutting
pub mod Supervision
-- what the crates above use of those below
pub use Rattle.link_pairs.proofs as link_pairs
