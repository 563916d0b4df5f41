-- The definitions of this crate.
pub mod AckBits
pub mod AckLink
pub mod AckNumbers
pub mod InStep
pub mod Nonempty
