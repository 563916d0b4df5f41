-- The lemmas of this crate.
pub mod SameEvent
pub mod TurnPlaces
pub mod OpenSteps
pub mod TurnSteps
pub mod Entering
pub mod BetweenTurns
pub mod SentPackets
pub mod ConnectInds
pub mod DistinctAccess
pub mod LinkPhases
pub mod Hearings
pub mod ByCalls
pub mod ChSel
pub mod LinkPasses
pub mod InRange
pub mod MostReceived
pub mod EndLengths
pub mod Payloads
pub mod Pieces
pub mod ReadPackets
pub mod AgreeingShapes
pub mod Agreed
pub mod TwoStations
pub mod InAgreement
pub mod EachCall
pub mod OpenedOnce
pub mod EarlierLinks
pub mod OwnLinks
pub mod TwoEnds
-- what the crates above use of those below
pub use Rattle.run_model.proofs.control_model as control_model
pub use Rattle.run_model.proofs.link_model as link_model
pub use Rattle.run_model.proofs.open_links as open_links
pub use Rattle.run_model.proofs as run_model
pub use Rattle.run_model.proofs.controller_model as controller_model
pub use Rattle.run_model.proofs.link_end as link_end
