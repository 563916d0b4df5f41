-- This crate has no definitions of its own: what the crates above use of those below.
pub use Rattle.link_procedures.specs as link_procedures
