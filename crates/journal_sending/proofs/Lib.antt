-- The lemmas of this crate.
pub mod NextPieces
pub mod SameData
pub mod HeldOnLines
pub mod AckedNext
pub mod SendsNext
pub mod SendingEnds
mod SentNotes
pub mod NextLines
pub mod Together
pub mod SendingEnd
pub mod ToldLines
pub mod Told
pub mod ToldPackets
pub mod ToldInRuns
pub mod WhatWaits
mod PieceBooks
mod WaitingPieces
pub mod PendingLines
pub mod TakenNotes
pub mod TakenPdus
pub mod TakenInRuns
pub mod AtRest
-- what the crates above use of those below
pub use Rattle.journal_leaving.proofs.journal_data as journal_data
pub use Rattle.journal_fixing.proofs as journal_fixing
pub use Rattle.journal_leaving.proofs as journal_leaving
pub use Rattle.journal_leaving.proofs.journal_acks as journal_acks
pub use Rattle.journal_leaving.proofs.journal_packets as journal_packets
pub use Rattle.run_model.proofs as run_model
pub use Rattle.journal_leaving.proofs.controller_model as controller_model
pub use Rattle.journal_hosts.proofs as journal_hosts
pub use Rattle.journal_leaving.proofs.journal_links as journal_links
