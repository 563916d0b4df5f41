-- The definitions of this crate.
pub mod Ends
pub mod Access
pub mod Ranges
pub mod Shapes
pub mod Rows
-- what the crates above use of those below
pub use Rattle.run_model.specs.control_end as control_end
pub use Rattle.run_model.specs.link_end as link_end
pub use Rattle.run_model.specs.link_model as link_model
pub use Rattle.run_model.specs.open_links as open_links
pub use Rattle.run_model.specs.procedure_stages as procedure_stages
pub use Rattle.run_model.specs as run_model
pub use Rattle.run_model.specs.controller_model as controller_model
pub use Rattle.run_model.specs.control_model as control_model
pub use Rattle.advertise.specs as advertise
pub use Rattle.host_view.specs as host_view
pub use Rattle.scan_init.specs as scan_init
