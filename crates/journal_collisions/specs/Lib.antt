-- The definitions of this crate.
pub mod Collisions
pub mod Outcomes
pub mod Rows
-- what the crates above use of those below
pub use Rattle.journal_endings.specs.journal_indications.journal_agreement as journal_agreement
pub use Rattle.journal_endings.specs.journal_indications.journal_data as journal_data
pub use Rattle.journal_endings.specs as journal_endings
pub use Rattle.journal_endings.specs.journal_indications.journal_data.journal_links as journal_links
pub use Rattle.run_collisions.specs.link_pairs as link_pairs
pub use Rattle.run_collisions.specs as run_collisions
pub use Rattle.journal_ends.specs as journal_ends
