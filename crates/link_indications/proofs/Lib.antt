-- The lemmas of this crate.
pub mod Controls
pub mod Silent
pub mod Holding
pub mod Receiving
pub mod Steps
