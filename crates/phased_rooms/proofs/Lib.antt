-- The lemmas of this crate.
mod RequestRooms
mod Holding
mod Stepping
mod PhaseRooms
mod Taking
pub mod Few
pub mod Following
