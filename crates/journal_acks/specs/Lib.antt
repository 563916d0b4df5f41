-- The definitions of this crate.
pub mod Exchange
pub mod Carried
pub mod Held
pub mod HeardBy
pub mod Counted
pub mod EventOrder
pub mod Shut
pub mod Rows
-- what the crates above use of those below
pub use Rattle.journal_packets.specs.journal_links as journal_links
pub use Rattle.journal_packets.specs as journal_packets
pub use Rattle.link_calls.specs as link_calls
pub use Rattle.journal_packets.specs.link_end as link_end
pub use Rattle.journal_packets.specs.link_model as link_model
pub use Rattle.journal_packets.specs.open_links as open_links
pub use Rattle.journal_packets.specs.procedure_stages as procedure_stages
pub use Rattle.journal_packets.specs.run_laws as run_laws
pub use Rattle.link_calls.specs.run_model as run_model
pub use Rattle.journal_packets.specs.controller_model as controller_model
