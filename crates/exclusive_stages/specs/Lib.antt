-- The definitions of this crate.
pub mod Pdus
pub mod Kinds
pub mod Begun
pub mod Sent
pub mod Acked
pub mod Held
pub mod Awaited
