-- The lemmas of this crate.
pub mod Noting
pub mod Stages
pub mod Outcomes
pub mod Tables
pub mod Controls
pub mod Steps
pub mod Seen
