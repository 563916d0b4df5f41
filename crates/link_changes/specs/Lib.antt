-- The definitions of this crate.
pub mod Noted
pub mod InForce
pub mod Worked
-- what the crates above use of those below
pub use Rattle.data_pdu.specs as data_pdu
