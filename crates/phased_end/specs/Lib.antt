-- The definitions of this crate.
pub mod Answers
pub mod Changes
pub mod Held
pub mod Lengths
pub mod Moves
pub mod Reached
pub mod Requests
pub mod Taking
-- what the crates above use of those below
pub use Rattle.keyed_control.specs as keyed_control
pub use Rattle.keyed_control.specs.phased_control as phased_control
pub use Rattle.keyed_control.specs.enc_phase as enc_phase
pub use Rattle.control_part.specs.control_end as control_end
