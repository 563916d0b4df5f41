-- The definitions of this crate.
pub mod Step
pub mod Facts
pub mod Data
pub mod Answers
pub mod Commands
pub mod Events
pub mod Links
pub mod Packets
pub mod Outcome
pub mod Radio
pub mod Heard
pub mod Side
pub mod Sent
pub mod Intervals
pub mod Connecting
pub mod Host
pub mod Notes
pub mod Between
pub mod Since
pub mod Rows
pub mod Entering
pub mod Shutting
-- what the crates above use of those below
pub use Rattle.link_commands.specs.open_links.link_model.control_end as control_end
pub use Rattle.link_commands.specs.open_links.link_end as link_end
pub use Rattle.link_commands.specs.open_links.link_model as link_model
pub use Rattle.link_commands.specs.open_links as open_links
pub use Rattle.link_commands.specs.open_links.link_model.procedure_stages as procedure_stages
pub use Rattle.link_commands.specs.open_links.link_model.procedure_values as procedure_values
pub use Rattle.link_commands.specs.open_links.control_model as control_model
pub use Rattle.host_view.specs as host_view
pub use Rattle.link_commands.specs as link_commands
