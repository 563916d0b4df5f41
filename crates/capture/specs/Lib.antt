-- The definitions that the contracts of this crate cite.
pub mod Air
pub mod Blocks
pub mod Capture
pub mod Centrals
pub mod Clock
pub mod Hosts
pub mod Knowing
pub mod Parts
pub mod Sides
