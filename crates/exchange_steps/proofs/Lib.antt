-- The lemmas of this crate.
pub mod Answers
pub mod Apart
pub mod Beginning
pub mod Calls
pub mod Going
pub mod OneExchange
pub mod Queues
pub mod Same
pub mod Sending
pub mod Taking
pub mod Took
-- what the crates above use of those below
pub use Rattle.exchange_pairs.proofs as exchange_pairs
pub use Rattle.procedure_values.proofs as procedure_values
