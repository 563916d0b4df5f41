-- The lemmas of this crate.
mod FullLines
mod HandedUp
mod SettledEnds
mod SettledRuns
mod SettledShut
mod SettledEarly
mod Law
mod OneKey
mod Awaited
mod AnswersHeard
mod CentralsOpen
mod PacketTurns
mod ResetAnswers
mod ResetsLeaveNone
-- what the crates above use of those below
pub use Rattle.journal_moves.proofs.journal_wants.journal_sending.journal_leaving as journal_leaving
pub use Rattle.journal_moves.proofs.journal_wants.journal_sending.run_model as run_model
pub use Rattle.journal_moves.proofs.journal_wants.journal_sending.journal_hosts as journal_hosts
