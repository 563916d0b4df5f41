-- The definitions of this crate.
pub mod Withheld
pub mod KeyedLines
pub mod LineSteps
pub mod OneEnd
pub mod SaidLines
pub mod Hearing
pub mod LinesDue
pub mod TurnSteps
pub mod Rows
-- what the crates above use of those below
pub use Rattle.journal_ends.specs as journal_ends
pub use Rattle.journal_ends.specs.journal_acks as journal_acks
pub use Rattle.journal_ends.specs.journal_links as journal_links
pub use Rattle.journal_ends.specs.journal_packets as journal_packets
pub use Rattle.journal_ends.specs.link_model as link_model
pub use Rattle.journal_ends.specs.open_links as open_links
pub use Rattle.journal_ends.specs.run_model as run_model
pub use Rattle.journal_ends.specs.controller_model as controller_model
pub use Rattle.journal_ends.specs.host_answers as host_answers
pub use Rattle.host_masks.specs as host_masks
