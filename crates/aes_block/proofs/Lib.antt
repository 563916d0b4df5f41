-- The lemmas of this crate.
pub mod TableEntries
pub mod WordOctets
pub mod ColumnOctets
pub mod ExpandedWords
pub mod CipherRounds
