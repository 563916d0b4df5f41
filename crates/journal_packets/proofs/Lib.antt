-- The lemmas of this crate.
pub mod SentLinks
pub mod AccessOrder
pub mod Replies
pub mod Asked
pub mod EachEvent
pub mod AskedSoFar
pub mod SendersLink
pub mod SoFar
pub mod NextAddresses
-- what the crates above use of those below
pub use Rattle.journal_links.proofs.control_model as control_model
pub use Rattle.journal_links.proofs as journal_links
pub use Rattle.journal_links.proofs.link_model as link_model
pub use Rattle.journal_links.proofs.open_links as open_links
pub use Rattle.journal_links.proofs.run_laws as run_laws
pub use Rattle.journal_links.proofs.controller_model as controller_model
