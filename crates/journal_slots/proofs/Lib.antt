-- The lemmas of this crate.
pub mod ExchangeSlots
pub mod LastEvents
pub mod OnAir
mod OnAirCalls
mod OnAirPackets
pub mod SecondSlots
mod Refusals
