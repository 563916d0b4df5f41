-- The lemmas of this crate.
pub mod CollisionCodes
pub mod CollisionEvents
pub mod CollisionStates
pub mod Collided
pub mod Collisions
pub mod CollisionsClosed
pub mod Gaps
pub mod Lifting
pub mod Numbers
pub mod Rejections
