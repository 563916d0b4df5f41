-- The lemmas of this crate.
pub mod HostSet
pub mod SlotGiven
pub mod TurnBegun
mod StationLines
mod NotedStation
mod OctetStation
mod CallLines
mod BeginStation
mod PassStation
mod EndStation
mod DecidedStation
pub mod LinkHandles
pub mod RunStations
pub mod KeptStations
pub mod RunDecided
pub mod NextLinks
pub mod NewLinks
pub mod WinnerLinks
pub mod RadioHolders
pub mod LinkedStation
pub mod FarLinks
pub mod QuietLinks
pub mod ToldBegin
pub mod ToldLinks
pub mod StillStation
mod SilentLines
mod StillLinks
pub mod StillTurns
pub mod ToldRuns
mod ServedLinks
mod LastServed
mod BegunServed
-- what the crates above use of those below
pub use Rattle.journal_events.proofs.journal_sending as journal_sending
pub use Rattle.journal_events.proofs.journal_sending.controller_model as controller_model
pub use Rattle.journal_events.proofs.journal_sending.journal_acks as journal_acks
pub use Rattle.journal_events.proofs.journal_sending.journal_data as journal_data
pub use Rattle.journal_events.proofs.journal_sending.journal_leaving as journal_leaving
pub use Rattle.journal_events.proofs.journal_sending.journal_links as journal_links
pub use Rattle.journal_events.proofs.journal_sending.journal_packets as journal_packets
pub use Rattle.journal_events.proofs.journal_sending.run_model as run_model
