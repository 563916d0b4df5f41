-- The definitions of this crate.
pub mod Groups
pub mod Header
pub mod Layouts
pub mod Ranges
pub mod Reading
