-- The lemmas of this crate.
pub mod Dropping
pub mod Counts
pub mod Handles
pub mod Ends
pub mod InTables
pub mod UnderHandles
pub mod Unmoved
pub mod Banks
pub mod Sweeps
pub mod Taken
pub mod Within
pub mod Empty
pub mod Steps
pub mod Handed
pub mod PhasedSteps
pub mod EndSteps
pub mod Intervals
pub mod Anchors
pub mod OnTime
pub mod KeyedLinks
-- what the crates above use of those below
pub use Rattle.link_end.proofs as link_end
pub use Rattle.link_end.proofs.link_model as link_model
pub use Rattle.link_end.proofs.control_end as control_end
pub use Rattle.link_end.proofs.control_model as control_model
pub use Rattle.link_end.proofs.table_laws as table_laws
pub use Rattle.link_end.proofs.procedure_values as procedure_values
