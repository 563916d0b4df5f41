-- The definitions of this crate.
pub mod Opcodes
pub mod Foreign
pub mod Exclusive
pub mod Kinds
pub mod InProgress
pub mod Collisions
pub mod Closing
pub mod Steps
pub mod Queue
pub mod Begun
pub mod Sent
pub mod Acked
pub mod Held
pub mod Awaited
-- what the crates above use of those below
pub use Rattle.procedure_values.specs as procedure_values
