-- The lemmas of this crate.
pub mod Agreeing
pub mod AllLawful
pub mod AnswerParts
pub mod Answering
pub mod Calling
pub mod Changing
pub mod Ciphers
pub mod Encrypted
pub mod Extending
pub mod Indicating
pub mod Kept
pub mod Lawful
pub mod LawfulTaking
pub mod Moving
pub mod PhaseFacts
pub mod Requesting
pub mod Requests
pub mod Rooms
pub mod Tables
pub mod Taking
pub mod Unknown
pub mod Unpaused
pub mod Waiting
-- what the crates above use of those below
pub use Rattle.control_model.proofs as control_model
pub use Rattle.table_laws.proofs as table_laws
