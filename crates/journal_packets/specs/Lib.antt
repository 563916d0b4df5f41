-- The definitions of this crate.
pub mod Belonging
pub mod Senders
pub mod Addresses
-- what the crates above use of those below
pub use Rattle.journal_links.specs.control_end as control_end
pub use Rattle.journal_links.specs as journal_links
pub use Rattle.journal_links.specs.link_end as link_end
pub use Rattle.journal_links.specs.link_model as link_model
pub use Rattle.journal_links.specs.open_links as open_links
pub use Rattle.journal_links.specs.procedure_stages as procedure_stages
pub use Rattle.journal_links.specs.run_laws as run_laws
pub use Rattle.journal_links.specs.controller_model as controller_model
