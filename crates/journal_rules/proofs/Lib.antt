-- The lemmas of this crate.
mod SinceLines
mod LastSaid
mod MdDue
mod EndSeals
mod PlainLines
mod LinesSeal
mod LinesSkip
mod EventForce
mod LatencyLines
-- what the crates above use of those below
pub use Rattle.journal_events.proofs as journal_events
