-- The definitions of this crate.
pub mod Stages
pub mod InTurns
pub mod OnTime
pub use Rattle.link_calls.specs as link_calls
