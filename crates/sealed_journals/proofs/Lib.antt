-- The lemmas of this crate.
pub mod Blocks
pub mod Keys
pub mod Payloads
pub mod Lines
pub mod Refusing
