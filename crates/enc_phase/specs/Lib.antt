-- The definitions of this crate.
pub mod Phases
pub mod Taking
pub mod Sealing
pub mod Lives
