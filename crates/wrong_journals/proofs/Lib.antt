-- The lemmas of this crate.
pub mod Differing
pub mod Packets
pub mod Turning
pub mod Shutting
pub mod Hearing
pub mod Failing
pub mod InEvents
pub mod Opening
pub mod Unanswering
pub mod Ordering
pub mod DueLines
