-- The definitions of this crate.
pub mod HostLines
pub mod Lines
pub mod Followed
pub mod Delivered
pub mod Held
-- what the crates above use of those below
pub use Rattle.journal_acks.specs.controller_model as controller_model
pub use Rattle.journal_acks.specs as journal_acks
pub use Rattle.journal_acks.specs.journal_links as journal_links
pub use Rattle.journal_acks.specs.journal_packets as journal_packets
pub use Rattle.journal_acks.specs.link_end as link_end
pub use Rattle.journal_acks.specs.link_model as link_model
pub use Rattle.journal_acks.specs.open_links as open_links
pub use Rattle.journal_acks.specs.run_laws as run_laws
pub use Rattle.journal_acks.specs.run_model as run_model
pub use Rattle.run_pairs.specs as run_pairs
