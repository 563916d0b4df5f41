-- The lemmas of this crate, lowest first.
pub mod Finders
pub mod Steps
pub mod Searches
pub mod Stages
pub mod Feeding
pub mod Growing
pub mod Framings
