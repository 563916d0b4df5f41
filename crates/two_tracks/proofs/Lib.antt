-- The lemmas of this crate.
pub mod Anchors
pub mod Gaps
pub mod Joint
pub mod JointHearing
pub mod Meeting
pub mod Moving
pub mod OneEnd
pub mod Reaching
pub mod Read
pub mod Relations
pub mod WorkedRuns
