-- The lemmas of this crate.
pub mod OtherLines
pub mod LineFolds
pub mod EventMoves
pub mod EndLeaving
pub mod TurnLeaving
pub mod DueReasons
pub mod NotShut
pub mod OpenedLeavings
pub mod ClosedEnds
pub mod AskedSteps
pub mod AskedLeavings
pub mod LeavingRefused
pub mod LinkLeaves
pub mod LeavingEnds
pub mod LeavingPackets
pub mod PassedLeavings
pub mod StayingLinks
pub mod KeptLeavings
pub mod RunLeavings
pub mod ShutCalls
pub mod ShutNotes
pub mod QuietTurns
pub mod ShutLines
pub mod DueBegun
pub mod Timeouts
pub mod HostDue
pub mod InTime
pub mod OnlyOpen
pub mod EndInTime
-- what the crates above use of those below
pub use Rattle.journal_controls.proofs as journal_controls
pub use Rattle.journal_controls.proofs.journal_acks as journal_acks
pub use Rattle.journal_controls.proofs.journal_ends as journal_ends
pub use Rattle.journal_controls.proofs.journal_links as journal_links
pub use Rattle.journal_controls.proofs.journal_packets as journal_packets
pub use Rattle.journal_controls.proofs.link_model as link_model
pub use Rattle.journal_controls.proofs.run_model as run_model
pub use Rattle.journal_data.proofs as journal_data
pub use Rattle.journal_controls.proofs.controller_model as controller_model
