-- The lemmas of this crate.
pub mod Bounds
pub mod Exchanging
pub mod Acks
pub mod TwoStations
pub mod SentLines
pub mod Counting
pub mod FirstCounts
pub mod Standing
pub mod Worded
pub mod PhaseNotes
pub mod PassedLinks
pub mod DataCalls
pub mod HandedOn
pub mod AirCounts
pub mod KeptCounts
pub mod EachCall
pub mod Known
pub mod Seen
pub mod RunCounts
pub mod EntryNotes
pub mod EntryLines
pub mod FixedPdus
pub mod KeptLines
pub mod LinkPackets
pub mod HeardPackets
pub mod NewPdus
pub mod EventsInOrder
pub mod HeardLines
pub mod GoodLinks
pub mod FeedCalls
pub mod ResetLines
-- what the crates above use of those below
pub use Rattle.journal_packets.proofs.journal_links as journal_links
pub use Rattle.journal_packets.proofs as journal_packets
pub use Rattle.link_calls.proofs as link_calls
pub use Rattle.journal_packets.proofs.link_model as link_model
pub use Rattle.journal_packets.proofs.open_links as open_links
pub use Rattle.journal_packets.proofs.run_laws as run_laws
pub use Rattle.link_calls.proofs.run_model as run_model
pub use Rattle.journal_packets.proofs.controller_model as controller_model
