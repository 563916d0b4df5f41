-- The definitions of this crate.
pub mod Turn
pub mod Open
pub mod Runs
pub mod Rows
-- what the crates above use of those below
pub use Rattle.link_pairs.specs as link_pairs
pub use Rattle.link_pairs.specs.joint_controls as joint_controls
pub use Rattle.link_pairs.specs.control_octets as control_octets
pub use Rattle.link_pairs.specs.control_model as control_model
pub use Rattle.link_pairs.specs.procedures as procedures
pub use Rattle.link_pairs.specs.procedure_stages as procedure_stages
pub use Rattle.link_pairs.specs.procedure_values as procedure_values
