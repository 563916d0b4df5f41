-- The definitions of this crate.
pub mod Field
pub mod State
pub mod KeyExpansion
pub mod Cipher
pub mod Words
