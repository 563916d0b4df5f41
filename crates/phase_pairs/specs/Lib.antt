-- The definitions of this crate.
pub mod Agreement
pub mod Central
pub mod Counted
pub mod JointRun
pub mod Peripheral
pub mod Worked
-- what the crates above use of those below
pub use Rattle.enc_phase.specs as enc_phase
