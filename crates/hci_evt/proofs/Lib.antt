-- The lemmas of this crate.
pub mod Packet
pub mod RoundTrip
