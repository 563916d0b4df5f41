-- The definitions of this crate.
pub mod Station
pub mod Setups
pub mod Rows
-- what the crates above use of those below
pub use Rattle.journal_events.specs.journal_sending as journal_sending
pub use Rattle.journal_events.specs.journal_sending.controller_model as controller_model
pub use Rattle.journal_events.specs.journal_sending.journal_acks as journal_acks
pub use Rattle.journal_events.specs.journal_sending.journal_controls as journal_controls
pub use Rattle.journal_events.specs.journal_sending.journal_data as journal_data
pub use Rattle.journal_events.specs.journal_sending.journal_links as journal_links
pub use Rattle.journal_events.specs.journal_sending.journal_packets as journal_packets
pub use Rattle.journal_events.specs.journal_sending.run_model as run_model
pub use Rattle.journal_events.specs as journal_events
pub use Rattle.journal_hearings.specs as journal_hearings
