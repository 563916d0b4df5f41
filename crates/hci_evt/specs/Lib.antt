-- The definitions of this crate.
pub mod Event
pub mod Groups
pub mod Reading
