-- The lemmas of this crate.
pub mod ViewPlaces
pub mod Refusals
pub mod RequestsApart
pub mod TurnsKnown
pub mod CommandsKnown
pub mod EndsKnown
pub mod StepsMay
