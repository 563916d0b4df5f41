-- The definitions of this crate.
pub mod Setup
pub mod Acknowledgement
pub mod Payload
pub mod Data
pub mod Events
pub mod Verdicts
pub mod Numbers
pub mod Lost
pub mod Pieces
pub mod OneLink
pub mod Rows
pub mod Facts
pub mod Controls
pub mod Step
pub mod Entering
pub mod Fixing
pub mod Packets
pub mod Hearing
pub mod Sending
pub mod Receiving
pub mod Hosts
pub mod Times
pub mod End
pub mod Kept
pub mod AskRanges
pub mod Drawing
pub mod KeyedSteps
pub mod NoEncryption
pub mod Delivery
-- what the crates above use of those below
pub use Rattle.phased_end.specs.control_end.control_model as control_model
pub use Rattle.phased_end.specs.control_end.procedure_stages as procedure_stages
pub use Rattle.phased_end.specs.control_end.procedure_values as procedure_values
pub use Rattle.phased_end.specs.control_end as control_end
pub use Rattle.phased_end.specs.control_end.procedures as procedures
pub use Rattle.phased_end.specs as phased_end
pub use Rattle.phased_end.specs.keyed_control as keyed_control
pub use Rattle.phased_end.specs.phased_control as phased_control
pub use Rattle.phased_end.specs.enc_phase as enc_phase
pub use Rattle.unencrypted_ends.specs as unencrypted_ends
