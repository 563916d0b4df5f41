-- The definitions of this crate.
pub mod Firsts
pub mod Runs
pub mod Ends
pub mod Sound
pub mod Pauses
pub mod Prevailing
-- what the crates above use of those below
pub use Rattle.joint_exchanges.specs as joint_exchanges
pub use Rattle.joint_parameters.specs as joint_parameters
pub use Rattle.joint_collisions.specs.joint_controls as joint_controls
pub use Rattle.joint_exchanges.specs.exchange_pairs as exchange_pairs
pub use Rattle.joint_collisions.specs.control_model as control_model
pub use Rattle.joint_collisions.specs.procedures as procedures
pub use Rattle.joint_collisions.specs.procedure_values as procedure_values
pub use Rattle.joint_collisions.specs.procedure_stages as procedure_stages
