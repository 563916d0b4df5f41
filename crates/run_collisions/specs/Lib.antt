-- The definitions of this crate.
pub mod Prevailing
pub mod Waiting
pub mod Refused
pub mod Rows
pub mod Owed
pub mod Taking
-- what the crates above use of those below
pub use Rattle.joint_collisions.specs as joint_collisions
pub use Rattle.link_pairs.specs as link_pairs
