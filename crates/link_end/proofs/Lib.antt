-- The lemmas of this crate.
pub mod Accepting
pub mod Banked
pub mod Counters
pub mod Counting
pub mod Entered
pub mod Fixed
pub mod Giving
pub mod Heard
pub mod Hosted
pub mod Keeping
pub mod NoneNext
pub mod Opening
pub mod Outcomes
pub mod Phases
pub mod Reaching
pub mod Received
pub mod Receptions
pub mod Refusing
pub mod Sent
pub mod Tying
-- what the crates above use of those below
pub use Rattle.link_model.proofs as link_model
pub use Rattle.link_model.proofs.control_model as control_model
pub use Rattle.control_end.proofs as control_end
pub use Rattle.link_model.proofs.table_laws as table_laws
pub use Rattle.link_model.proofs.procedure_values as procedure_values
