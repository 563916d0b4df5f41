-- The lemmas of this crate.
pub mod KeyedSteps
pub mod BodyPayloads
mod ClearSteps
mod ClearEnds
pub mod Views
pub mod ReadRanges
pub mod Coming
pub mod KeyedPasts
pub mod KnownEnds
pub mod Receptions
pub mod Forging
pub mod Choices
pub mod Hearing
pub mod Outgoing
pub mod Acknowledging
pub mod Moves
pub mod Counts
pub mod Numbering
pub mod Sending
pub mod Taking
pub mod TurnParts
pub mod Repeating
pub mod MoreData
pub mod KeptPdus
pub mod Llids
pub mod Fixing
pub mod Skipping
pub mod Ending
pub mod Exchanges
pub mod Agreeing
pub mod Pieces
pub mod Pasts
pub mod Opening
pub mod Headers
pub mod Received
-- what the crates above use of those below
pub use Rattle.phased_end.proofs.control_end.control_model as control_model
pub use Rattle.phased_end.proofs.control_end as control_end
pub use Rattle.phased_end.proofs.control_end.table_laws as table_laws
pub use Rattle.phased_end.proofs.control_end.procedure_values as procedure_values
pub use Rattle.phased_end.proofs as phased_end
