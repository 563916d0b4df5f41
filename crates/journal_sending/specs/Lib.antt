-- The definitions of this crate.
pub mod Outgoing
pub mod NextPdus
pub mod WhatWaits
pub mod Announced
pub mod Pending
pub mod Resting
pub mod Rows
-- what the crates above use of those below
pub use Rattle.journal_leaving.specs.journal_data as journal_data
pub use Rattle.journal_fixing.specs as journal_fixing
pub use Rattle.journal_leaving.specs as journal_leaving
pub use Rattle.journal_leaving.specs.journal_acks as journal_acks
pub use Rattle.run_model.specs as run_model
pub use Rattle.journal_leaving.specs.controller_model as controller_model
pub use Rattle.journal_leaving.specs.journal_packets as journal_packets
pub use Rattle.journal_leaving.specs.journal_links as journal_links
pub use Rattle.journal_due.specs as journal_due
pub use Rattle.journal_hosts.specs as journal_hosts
pub use Rattle.journal_leaving.specs.journal_controls as journal_controls
