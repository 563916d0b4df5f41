-- The lemmas of this crate.
pub mod AskedLinks
pub mod FewLinks
pub mod EachLine
pub mod HeldLinks
pub mod Booked
pub mod Arriving
pub mod NotedPdus
pub mod Middle
pub mod HostPackets
pub mod Submitting
mod Feeds
pub mod DataSteps
pub mod SameGiven
mod KeptSubmitted
pub mod Tied
pub mod Sides
pub mod Mine
pub mod MineKept
pub mod Openness
pub mod NotedLines
mod TurnsEnded
pub mod StationLines
mod OpenLines
pub mod LeastHandles
mod PieceLengths
mod Reported
pub mod HeldNotes
pub mod LinesGrow
pub mod FewComplete
mod Credits
mod HandedPieces
pub mod FedInRuns
pub mod Ends
pub mod ClearLines
pub mod SameView
mod NotedStays
pub mod EndedLinks
pub mod Followed
pub mod OneCall
mod EndCalls
pub mod Moves
mod FeedSide
pub mod KeptData
pub mod OneNumber
pub mod NumberedEnds
pub mod PairedEnds
mod AgreedEnds
mod KeptArriving
mod Fronts
pub mod CallMiddle
mod DataInRuns
pub mod Law
pub mod HeldInRuns
-- what the crates above use of those below
pub use Rattle.journal_acks.proofs.controller_model as controller_model
pub use Rattle.journal_acks.proofs as journal_acks
pub use Rattle.journal_acks.proofs.journal_links as journal_links
pub use Rattle.journal_acks.proofs.journal_packets as journal_packets
pub use Rattle.journal_acks.proofs.link_model as link_model
pub use Rattle.journal_acks.proofs.open_links as open_links
pub use Rattle.journal_acks.proofs.run_laws as run_laws
pub use Rattle.journal_acks.proofs.run_model as run_model
pub use Rattle.run_pairs.proofs as run_pairs
