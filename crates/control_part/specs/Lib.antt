-- The definitions of this crate.
pub mod Ending
-- what the crates above use of those below
pub use Rattle.control_end.specs as control_end
