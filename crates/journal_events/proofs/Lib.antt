-- The lemmas of this crate.
pub mod KeptLengths
pub mod EndEvents
pub mod LineFolds
pub mod SaidEvents
pub mod LinkEvents
pub mod EventMoves
pub mod EventEnds
pub mod AskedEvents
pub mod HostedEvents
pub mod OpenedEvents
pub mod PacketBits
pub mod EventPackets
pub mod PassedEvents
pub mod KeptEvents
pub mod RunEvents
mod BegunLinks
pub mod BegunPlaces
pub mod BegunEvents
pub mod StillEvents
pub mod SkipsTold
mod EnteredLines
mod EnteredEnds
pub mod SkipsInRuns
-- what the crates above use of those below
pub use Rattle.journal_sending.proofs.journal_leaving as journal_leaving
pub use Rattle.journal_sending.proofs as journal_sending
