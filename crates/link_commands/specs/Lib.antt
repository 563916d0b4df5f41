-- The definitions of this crate.
pub mod Commands
pub mod Views
pub mod LinksCommanded
-- what the crates above use of those below
pub use Rattle.open_links.specs as open_links
pub use Rattle.procedure_events.specs as procedure_events
