-- The lemmas of this crate.
pub mod Going
pub mod Sending
pub mod Staying
pub mod Taking
