-- The lemmas of this crate.
pub mod Calls
pub mod Places
pub mod Stations
pub mod Walk
pub mod Fronts
pub mod Dues
pub mod Notes
pub mod Feeds
pub mod Sending
pub mod Unseen
pub mod Openings
pub mod Rounds
pub mod OfStations
pub mod Journals
pub mod Parts
pub mod OnePlace
pub mod Ordered
pub mod EntryEvents
pub mod Fates
pub mod UpToDate
pub mod Answers
pub mod LinkSteps
pub mod Doings
pub mod OpenedNotes
pub mod LinksKnown
pub mod Linked
pub mod Handing
pub mod LinkEnds
pub mod OpenedLinks
pub mod Numbers
pub mod CallNotes
pub mod NoteLines
-- what the crates above use of those below
pub use Rattle.controller_model.proofs.control_model as control_model
pub use Rattle.controller_model.proofs.link_model as link_model
pub use Rattle.controller_model.proofs.open_links as open_links
pub use Rattle.controller_model.proofs.link_end as link_end
pub use Rattle.controller_model.proofs as controller_model
