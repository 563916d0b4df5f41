-- The lemmas of this crate.
pub mod Pasts
pub mod Phases
pub mod Following
pub mod Handing
pub mod Asked
pub mod Always
pub mod Handles
pub mod Places
pub mod Exchanges
pub mod Buffers
pub mod BetweenTurns
pub mod FlowOff
pub mod HostBuffers
pub mod HostWindow
pub mod ProcedureEvents
pub mod EndNotes
pub mod TurnNotes
pub mod StepNotes
pub mod NotedLinks
pub mod AnsweredOnce
pub mod Feds
pub mod NoAnswers
pub mod InOrder
pub mod Opcodes
pub mod Rands
pub mod Alike
pub mod NoLinks
pub mod Alone
pub mod ByFrames
pub mod Understood
pub mod SixOctets
pub mod DataChannels
pub mod LinkFields
pub mod Accepted
pub mod Sent
pub mod LeftOn
pub mod Lengths
pub mod Requests
pub mod OpenPlaces
pub mod Room
pub mod AdvertisersKnown
pub mod ViewRoom
pub mod FreeHandles
pub mod AccessAddresses
pub mod Answering
pub mod LinkNotes
pub mod OtherNotes
pub mod Books
pub mod BookSteps
pub mod BookEnds
pub mod PiecesBelow
pub mod BooksAlways
pub mod NoteBooks
pub mod UnderNotes
pub mod DataBooks
pub mod ReportBooks
pub mod OpenNotes
pub mod Entries
pub mod Shuts
pub mod Resets
-- what the crates above use of those below
pub use Rattle.link_commands.proofs.open_links.link_model.control_model as control_model
pub use Rattle.link_commands.proofs.open_links.link_model as link_model
pub use Rattle.link_commands.proofs.open_links as open_links
pub use Rattle.link_commands.proofs.open_links.link_end as link_end
pub use Rattle.link_commands.proofs as link_commands
