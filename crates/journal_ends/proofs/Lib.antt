-- The lemmas of this crate.
pub mod SeenLists
pub mod PastSeen
pub mod WordedLinks
pub mod GrownLinks
pub mod HostedLinks
pub mod DrawingCalls
pub mod StandingLinks
mod AnsweredLines
pub mod PeersKnown
pub mod SeenEvents
pub mod ReachedLinks
pub mod AskedCalls
pub mod EndsKnown
pub mod SeenCalls
pub mod ForgedLinks
pub mod SeenPackets
pub mod GivenFronts
pub mod KeptSeen
pub mod RunSeen
-- what the crates above use of those below
pub use Rattle.journal_acks.proofs as journal_acks
pub use Rattle.journal_acks.proofs.journal_links as journal_links
pub use Rattle.journal_acks.proofs.journal_packets as journal_packets
pub use Rattle.journal_acks.proofs.link_model as link_model
pub use Rattle.journal_acks.proofs.open_links as open_links
pub use Rattle.journal_acks.proofs.run_laws as run_laws
pub use Rattle.journal_acks.proofs.run_model as run_model
pub use Rattle.journal_acks.proofs.controller_model as controller_model
pub use Rattle.host_answers.proofs as host_answers
