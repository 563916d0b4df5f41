-- The definitions of this crate.
pub mod KeyedJoint
pub mod KeyedLinks
pub mod OneKey
pub mod Opening
pub mod PhasedRanges
pub mod Worked
-- what the crates above use of those below
pub use Rattle.joint_laws.specs as joint_laws
pub use Rattle.keyed_control.specs as keyed_control
pub use Rattle.control_octets.specs as control_octets
