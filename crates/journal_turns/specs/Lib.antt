-- The definitions of this crate.
pub mod Scheduled
pub mod Judged
pub mod Radios
pub mod Follows
pub mod Stopped
