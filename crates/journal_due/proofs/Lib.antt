-- The lemmas of this crate.
pub mod DueLines
pub mod DueSteps
pub mod DueEntries
pub mod DueReceptions
pub mod DuePlain
pub mod DueTurns
pub mod DuePhases
pub mod DueSides
pub mod DueCalls
pub mod DueAhead
pub mod DuePackets
pub mod KeptDue
pub mod RunDue
pub mod ControlsKnown
