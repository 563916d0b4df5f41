-- The definitions of this crate.
pub mod Crossing
pub mod Rows
-- what the crates above use of those below
pub use Rattle.journal_collisions.specs.journal_endings.controller_model as controller_model
pub use Rattle.journal_collisions.specs as journal_collisions
pub use Rattle.journal_collisions.specs.journal_data as journal_data
pub use Rattle.journal_collisions.specs.journal_links as journal_links
pub use Rattle.journal_collisions.specs.journal_data.journal_packets as journal_packets
pub use Rattle.link_outcomes.specs as link_outcomes
pub use Rattle.journal_collisions.specs.journal_data.run_model as run_model
