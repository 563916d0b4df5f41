-- The lemmas of this crate.
mod AirDoings
mod OnePhase
pub mod RequestsHeard
mod ConnectLines
mod SettingsHeld
mod SettingsRead
pub mod LinkedAddresses
mod OffersMade
mod BothKept
pub mod PeripheralNotes
mod ConnectsTaken
mod ConnectsAwaited
mod HeardTaken
pub mod LinksOpened
mod LastHeard
mod OpenedHeard
mod HeardInTurn
mod AdvertiserRoom
mod AdvertiserHandles
