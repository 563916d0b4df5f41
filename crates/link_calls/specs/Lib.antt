-- The definitions of this crate.
pub mod Uses
pub mod Turns
pub mod Phases
pub mod Hosts
pub mod Exchanges
pub mod Rows
-- what the crates above use of those below
pub use Rattle.run_laws.specs.control_end as control_end
pub use Rattle.run_laws.specs.link_model as link_model
pub use Rattle.run_laws.specs.open_links as open_links
pub use Rattle.run_laws.specs as run_laws
pub use Rattle.run_laws.specs.Ranges as Ranges
pub use Rattle.run_laws.specs.run_model as run_model
pub use Rattle.run_laws.specs.controller_model as controller_model
