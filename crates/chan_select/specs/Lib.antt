-- The definitions of this crate.
pub mod Channel
pub mod Hopping
pub mod PseudoRandom
