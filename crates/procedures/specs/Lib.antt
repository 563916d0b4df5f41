-- The definitions of this crate.
pub mod Length
pub mod Table
pub mod Queue
pub mod Outcomes
pub mod Termination
pub mod Update
pub mod Map
pub mod Request
pub mod Phy
pub mod Features
pub mod Version
pub mod Encryption
pub mod Refusals
pub mod Taking
pub mod Sending
pub mod Beginning
pub mod Going
pub mod Calls
pub mod Laws
-- what the crates above use of those below
pub use Rattle.procedure_stages.specs as procedure_stages
pub use Rattle.procedure_stages.specs.procedure_values as procedure_values
