-- The definitions that the contracts of this crate cite.
pub mod Chart
pub mod Naming
pub mod Pdus
pub mod Rows
pub mod Shapes
pub mod Svg
pub mod Words
