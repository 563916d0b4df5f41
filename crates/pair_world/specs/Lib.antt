-- The definitions that the contracts of this crate cite.
pub mod KnownLinks
pub mod Logs
pub mod Stations
pub mod Order
pub mod Outcomes
pub mod Wishes
pub mod Air
pub mod Turns
pub mod Faults
