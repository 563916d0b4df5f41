-- The proofs of this crate.
pub mod Steps
pub mod Counting
pub mod Following
