-- The definitions of this crate.
pub mod History
pub mod Run
pub mod Links
pub mod Journal
pub mod Pair
pub mod Due
pub mod Rows
pub mod Feeding
pub mod OnAir
pub mod Turns
pub mod Readers
pub mod Order
pub mod Entries
pub mod Answered
pub mod LinkEnds
pub mod Numbers
pub mod NotedCalls
pub mod NoteLines
-- what the crates above use of those below
pub use Rattle.controller_model.specs.control_end as control_end
pub use Rattle.controller_model.specs as controller_model
pub use Rattle.controller_model.specs.link_end as link_end
pub use Rattle.controller_model.specs.link_model as link_model
pub use Rattle.controller_model.specs.open_links as open_links
pub use Rattle.controller_model.specs.procedure_stages as procedure_stages
pub use Rattle.controller_model.specs.procedure_values as procedure_values
pub use Rattle.controller_model.specs.control_model as control_model
