-- The definitions of this crate.
pub mod Ends
pub mod Ways
pub mod Shown
pub mod Turns
pub mod Hearing
pub mod Hosts
pub mod Parting
pub mod Sound
pub mod Rows
-- what the crates above use of those below
pub use Rattle.link_model.specs as link_model
pub use Rattle.link_model.specs.control_end as control_end
pub use Rattle.joint_laws.specs.joint_controls as joint_controls
pub use Rattle.control_octets.specs as control_octets
pub use Rattle.joint_laws.specs.control_model as control_model
pub use Rattle.joint_laws.specs.procedures as procedures
pub use Rattle.joint_laws.specs.procedure_values as procedure_values
pub use Rattle.unencrypted_ends.specs as unencrypted_ends
pub use Rattle.joint_laws.specs.procedure_stages as procedure_stages
