-- The lemmas of this crate.
pub mod OpenLinkCalls
pub mod Ranges
pub use Rattle.open_links.proofs as open_links
