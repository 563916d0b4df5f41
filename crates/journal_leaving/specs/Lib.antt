-- The definitions of this crate.
pub mod Lacking
pub mod Leaving
pub mod Reasons
pub mod Said
pub mod Hearing
pub mod Shutting
pub mod Rows
-- what the crates above use of those below
pub use Rattle.journal_controls.specs as journal_controls
pub use Rattle.journal_controls.specs.journal_acks as journal_acks
pub use Rattle.journal_controls.specs.journal_ends as journal_ends
pub use Rattle.journal_controls.specs.journal_links as journal_links
pub use Rattle.journal_controls.specs.journal_packets as journal_packets
pub use Rattle.journal_controls.specs.link_model as link_model
pub use Rattle.journal_controls.specs.run_model as run_model
pub use Rattle.journal_data.specs as journal_data
pub use Rattle.journal_controls.specs.controller_model as controller_model
