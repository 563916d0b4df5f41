-- The definitions that the contracts of this crate cite.
pub mod Division
pub mod Fields
pub mod FirstLine
pub mod Range
pub mod Reading
pub mod Text
pub mod Words
pub mod WordTuples
