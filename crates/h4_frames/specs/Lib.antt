-- The definitions that the contracts of this crate cite.
pub mod Packets
pub mod Frames
pub mod Framing
pub mod Parts
pub mod Machine
pub mod Fits
