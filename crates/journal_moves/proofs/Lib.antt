-- The lemmas of this crate.
mod NextDoing
mod Phases
mod Ready
mod DoingPhases
mod OwedPackets
mod SaidLines
mod NextPhases
mod SaidDoings
mod SaidSteps
mod KeptDoings
mod HearsAs
mod HeardPackets
mod OwedMoves
mod JudgedPackets
mod RunMoves
mod JudgedRuns
mod ForgedRests
mod SaidRuns
mod Connecting
mod HandedOn
mod ConnectingRuns
mod EndedEnds
mod FarAnswers
mod HearingPlaces
mod TakingCalls
mod KnownCalls
mod SaidInRuns
-- what the crates above use of those below
pub use Rattle.journal_wants.proofs as journal_wants
