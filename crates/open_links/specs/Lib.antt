-- The definitions of this crate.
pub mod Ended
pub mod Offered
pub mod Wants
pub mod OpenLinks
pub mod Data
pub mod Turns
pub mod Hosts
pub mod Keys
pub mod Hearing
pub mod Knowing
pub mod Sound
pub mod Slots
-- what the crates above use of those below
pub use Rattle.link_end.specs.control_model as control_model
pub use Rattle.link_end.specs.link_model as link_model
pub use Rattle.link_end.specs.control_end as control_end
pub use Rattle.link_end.specs.procedure_values as procedure_values
pub use Rattle.link_end.specs as link_end
