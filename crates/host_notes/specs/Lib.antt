-- The definitions of this crate.
pub mod Entering
pub mod Hearing
pub mod Asking
