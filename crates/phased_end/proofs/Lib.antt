-- The lemmas of this crate.
pub mod Asking
pub mod Depending
pub mod Entered
pub mod Lengths
pub mod Payloads
pub mod Reached
pub mod Refusals
pub mod Replies
pub mod Rooms
pub mod Sized
pub mod Steps
pub mod Taken
pub mod Unknown
-- what the crates above use of those below
pub use Rattle.keyed_control.proofs as keyed_control
pub use Rattle.control_part.proofs.control_end as control_end
