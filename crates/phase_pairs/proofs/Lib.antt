-- The lemmas of this crate.
pub mod Closed
pub mod Counters
pub mod Events
pub mod Proved
pub mod StateCodes
pub mod States
