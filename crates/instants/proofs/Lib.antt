-- The lemmas of this crate.
pub mod Changes
pub mod Following
pub mod Standing
