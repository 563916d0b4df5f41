-- The definitions of this crate.
pub mod Answered
pub mod Credits
pub mod Ends
pub mod HostFlow
pub mod HostOrder
pub mod CreditRows
pub mod FlowRows
pub mod OrderRows
