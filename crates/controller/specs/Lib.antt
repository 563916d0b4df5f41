-- The definitions of this crate.
pub mod Actions
pub mod Fitting
pub mod Framed
pub mod Held
pub mod Knowing
pub mod Order
pub mod Steps
