-- The lemmas of this crate.
pub mod Bits
pub mod Listed
pub mod Numbers
pub mod Recent
pub mod Recurring
pub mod Searches
pub mod Stepping
pub mod Transitions
