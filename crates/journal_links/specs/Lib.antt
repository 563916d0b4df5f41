-- The definitions of this crate.
pub mod Begun
pub mod Changes
pub mod Entered
pub mod LinkLines
pub mod Opened
pub mod Rows
-- what the crates above use of those below
pub use Rattle.run_laws.specs.control_end as control_end
pub use Rattle.run_laws.specs.link_end as link_end
pub use Rattle.run_laws.specs.link_model as link_model
pub use Rattle.run_laws.specs.open_links as open_links
pub use Rattle.run_laws.specs.procedure_stages as procedure_stages
pub use Rattle.run_laws.specs as run_laws
pub use Rattle.run_laws.specs.run_model as run_model
pub use Rattle.run_laws.specs.controller_model as controller_model
