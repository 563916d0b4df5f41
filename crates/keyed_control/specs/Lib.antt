-- The definitions of this crate.
pub mod Halves
pub mod Keyed
pub mod KeyedSteps
pub mod Worked
-- what the crates above use of those below
pub use Rattle.phased_control.specs as phased_control
pub use Rattle.phased_control.specs.enc_phase as enc_phase
