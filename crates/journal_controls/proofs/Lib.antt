-- The lemmas of this crate.
pub mod NotedSteps
pub mod CentralFixed
pub mod EndSteps
pub mod LineFolds
pub mod EarlyTakings
pub mod EventMoves
pub mod EndMoves
pub mod PeripheralFixed
pub mod GivenAlike
pub mod Refusing
pub mod Replies
pub mod SendsAlike
pub mod TurnMoves
pub mod Counted
pub mod FixedEnds
pub mod TakingLines
pub mod AtCentral
pub mod LinkMoves
pub mod EarlyAnswers
pub mod OpenedControls
pub mod OpenedMost
pub mod NewLinks
pub mod GoodPackets
pub mod AskedControls
pub mod ControlledEnds
pub mod ControlPackets
pub mod PassedControls
pub mod KeptControls
pub mod RunControls
-- what the crates above use of those below
pub use Rattle.journal_ends.proofs as journal_ends
pub use Rattle.journal_ends.proofs.journal_acks as journal_acks
pub use Rattle.journal_ends.proofs.journal_links as journal_links
pub use Rattle.journal_ends.proofs.journal_packets as journal_packets
pub use Rattle.journal_ends.proofs.link_model as link_model
pub use Rattle.journal_ends.proofs.run_model as run_model
pub use Rattle.journal_ends.proofs.host_answers as host_answers
pub use Rattle.journal_ends.proofs.controller_model as controller_model
pub use Rattle.host_masks.proofs as host_masks
