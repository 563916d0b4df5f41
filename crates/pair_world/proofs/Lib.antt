-- The lemmas of this crate.
pub mod Histories
pub mod Calls
pub mod Numbers
pub mod Keeping
pub mod Outcomes
pub mod Noting
pub mod Feeding
pub mod ConnectInds
pub mod Flying
pub mod Transmitting
pub mod BothCalled
pub mod ThreePhases
pub mod WholeTurns
pub mod WholeRuns
