-- The definitions that the contracts of this crate cite.
pub mod Bits
pub mod ChannelMap
pub mod ErrorCodes
pub mod Instant
pub mod Limits
pub mod Note
pub mod Side
