-- The lemmas of this crate.
pub mod Common
pub mod VersionPdus
pub mod VersionFacts
pub mod FirstPlaces
pub mod ExclusiveFirsts
pub mod CentralFirsts
pub mod PeripheralFirsts
pub mod CentralFacts
pub mod PeripheralFacts
pub mod PeerOrEncryption
pub mod PeerInQuiet
pub mod FactsHold
pub mod Meanings
pub mod ExclusiveFactsHold
pub mod EachState
pub mod WaitsDown
pub mod PhaseLaws
pub mod CiphersWait
pub mod FewWait
pub mod TakenEnds
pub mod StepEnds
pub mod LinkEnds
pub mod Lateness
pub mod SoundStates
pub mod PausePlaces
pub mod Rejected
-- what the crates above use of those below
pub use Rattle.joint_exchanges.proofs as joint_exchanges
pub use Rattle.joint_phases.proofs as joint_phases
pub use Rattle.joint_parameters.proofs as joint_parameters
pub use Rattle.joint_collisions.proofs.joint_controls as joint_controls
pub use Rattle.joint_collisions.proofs.control_model as control_model
