-- The lemmas of this crate.
pub mod QuietSteps
pub mod Stages
pub mod AtOnce
pub mod Worded
pub mod WordedNotes
pub mod Unmixed
pub mod Refusing
pub mod LinkSteps
pub mod CallPlaces
pub mod OneSide
pub mod EndCalls
pub mod PairSteps
pub mod FarPackets
pub mod BothEnds
pub mod HeardNow
pub mod Conclusions
pub mod ReadAsSent
pub mod OnAirNow
pub mod FarEnds
pub mod OnTime
pub use Rattle.link_calls.proofs as link_calls
