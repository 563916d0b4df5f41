-- The lemmas of this crate.
pub mod Separators
pub mod Decimals
pub mod SpelledLines
pub mod SpelledNumbers
