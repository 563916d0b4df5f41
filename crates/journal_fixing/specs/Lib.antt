-- The definitions of this crate.
pub mod NextPdu
pub mod OnLines
pub mod PastFixing
pub mod EndPackets
pub mod Rows
-- what the crates above use of those below
pub use Rattle.journal_controls.specs as journal_controls
pub use Rattle.journal_controls.specs.journal_acks as journal_acks
pub use Rattle.journal_controls.specs.journal_ends as journal_ends
pub use Rattle.journal_controls.specs.link_model as link_model
pub use Rattle.journal_controls.specs.run_model as run_model
