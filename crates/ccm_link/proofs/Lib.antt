-- The lemmas of this crate.
pub mod BlockOctets
pub mod Cutting
pub mod Sealing
pub mod Answering
