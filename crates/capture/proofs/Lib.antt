-- The lemmas of this crate.
pub mod HostSteps
pub mod Known
pub mod Loops
pub mod Parts
pub mod Short
