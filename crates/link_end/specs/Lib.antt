-- The definitions of this crate.
pub mod Pdus
pub mod Held
pub mod Entering
pub mod Fixing
pub mod Sending
pub mod Receiving
pub mod Hosts
pub mod Times
pub mod Knowing
pub mod Answers
pub mod Tied
-- what the crates above use of those below
pub use Rattle.link_model.specs as link_model
pub use Rattle.link_model.specs.phased_end as phased_end
pub use Rattle.control_end.specs as control_end
pub use Rattle.link_model.specs.control_model as control_model
pub use Rattle.procedures.specs as procedures
pub use Rattle.link_model.specs.procedure_stages as procedure_stages
pub use Rattle.link_model.specs.procedure_values as procedure_values
