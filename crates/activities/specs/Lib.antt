-- The definitions of this crate.
pub mod Fitting
pub mod Held
pub mod Steps
