-- The definitions of this crate.
pub mod Agreement
pub mod Classes
pub mod Events
pub mod Facts
pub mod Pairs
pub mod Parts
pub mod Worked
-- what the crates above use of those below
pub use Rattle.phase_pairs.specs as phase_pairs
