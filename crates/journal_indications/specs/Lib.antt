-- The definitions of this crate: there are none.
-- what the crates above use of those below
pub use Rattle.journal_agreement.specs as journal_agreement
pub use Rattle.journal_agreement.specs.journal_data as journal_data
