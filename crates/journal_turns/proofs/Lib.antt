-- The lemmas of this crate.
pub mod Verdicts
pub mod Scheduling
pub mod Quiet
pub mod RadiosOff
pub mod Stopping
