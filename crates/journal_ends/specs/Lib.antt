-- The definitions of this crate.
pub mod Left
pub mod Asked
pub mod GivenWords
pub mod Answering
pub mod Seen
pub mod Rows
-- what the crates above use of those below
pub use Rattle.journal_acks.specs as journal_acks
pub use Rattle.journal_acks.specs.journal_links as journal_links
pub use Rattle.journal_acks.specs.journal_packets as journal_packets
pub use Rattle.journal_acks.specs.link_model as link_model
pub use Rattle.journal_acks.specs.open_links as open_links
pub use Rattle.journal_acks.specs.run_laws as run_laws
pub use Rattle.journal_acks.specs.run_model as run_model
pub use Rattle.journal_acks.specs.controller_model as controller_model
pub use Rattle.host_answers.specs as host_answers
