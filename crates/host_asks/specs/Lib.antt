-- The definitions of this crate.
pub mod Knowing
pub mod Noting
pub mod Commands
pub mod Lasting
pub mod Views
pub mod OpenEnds
pub mod Rows
-- what the crates above use of those below
pub use Rattle.link_pairs.specs as link_pairs
