-- The lemmas of this crate.
pub mod CallNotes
pub mod LinkUses
pub mod LinkPhases
pub mod AtOnce
pub mod HeardSteps
pub mod HostSteps
pub mod Worded
pub mod UnderHandles
pub mod OffLinks
pub mod LinkCalls
pub mod Refusals
pub mod RadioUses
pub mod EnteredLinks
pub mod HeldRadio
pub mod Lengths
pub mod Exchanging
-- what the crates above use of those below
pub use Rattle.run_laws.proofs.control_model as control_model
pub use Rattle.run_laws.proofs.link_model as link_model
pub use Rattle.run_laws.proofs.open_links as open_links
pub use Rattle.run_laws.proofs as run_laws
pub use Rattle.run_laws.proofs.InRange as InRange
pub use Rattle.run_laws.proofs.Pieces as Pieces
pub use Rattle.run_laws.proofs.run_model as run_model
pub use Rattle.run_laws.proofs.controller_model as controller_model
