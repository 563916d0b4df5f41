-- The lemmas of this crate.
pub mod BitLists
pub mod BitSums
pub mod Multiples
pub mod OctetValues
pub mod Registers
pub mod Remainders
pub mod SentOrder
pub mod Sequences
pub mod ShortChanges
pub mod WhiteBits
