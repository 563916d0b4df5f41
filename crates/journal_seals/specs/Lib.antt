-- The definitions of this crate.
pub mod Seals
-- what the crates above use of those below
pub use Rattle.journal_forgeries.specs as journal_forgeries
pub use Rattle.journal_forgeries.specs.journal_sealing as journal_sealing
