-- The lemmas of this crate.
pub mod SealedSo
pub mod OnAirSeals
pub mod SealedPackets
