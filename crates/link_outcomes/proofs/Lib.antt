-- The lemmas of this crate.
pub mod Terminating
pub mod Awaiting
pub mod Taking
pub mod Requests
pub mod Controls
pub mod SentRequests
pub mod Standing
pub mod Hearing
pub mod Noting
