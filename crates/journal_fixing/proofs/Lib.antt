-- The lemmas of this crate.
pub mod UnsentOctets
pub mod FixedPdus
pub mod AnsweredPdus
pub mod KeptFolds
pub mod ControlKept
pub mod NotedLines
pub mod SaidPdus
pub mod RoomForPieces
pub mod SentLines
pub mod FixingEvents
pub mod TurnFixing
pub mod FixedPasts
pub mod UnfixedEnds
pub mod FixingLinks
pub mod TellingMore
pub mod FixedSince
pub mod KeptFixing
pub mod RunFixing
pub mod GoingLinks
pub mod GoingPackets
pub mod KeptGoing
pub mod RunGoing
pub mod SentPdus
pub mod FirstNotes
pub mod BegunPdus
pub mod AnsweredLines
pub mod ToldMore
pub mod EndPackets
-- what the crates above use of those below
pub use Rattle.journal_controls.proofs as journal_controls
