-- The lemmas of this crate.
pub mod LinksBegun
pub mod Offers
pub mod Numbered
pub mod EnterLines
pub mod OpenedLines
pub mod Ranges
pub mod SaidLines
pub mod CallNotes
pub mod ChangesAt
pub mod EntriesNoted
pub mod LinkLines
pub mod LineNotes
pub mod OfTwo
-- what the crates above use of those below
pub use Rattle.run_laws.proofs.control_model as control_model
pub use Rattle.run_laws.proofs.link_model as link_model
pub use Rattle.run_laws.proofs.open_links as open_links
pub use Rattle.run_laws.proofs as run_laws
pub use Rattle.run_laws.proofs.run_model as run_model
pub use Rattle.run_laws.proofs.controller_model as controller_model
