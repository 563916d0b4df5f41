-- The lemmas of this crate.
pub mod Notes
pub mod Alike
pub mod Standing
pub mod Readable
pub mod Reading
pub mod Requests
pub mod Phases
pub mod Taking
pub mod Reached
pub mod Knowing
pub mod Coming
pub mod Parts
pub mod Steps
pub mod Entries
pub mod OtherSteps
