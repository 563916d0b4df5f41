-- The lemmas of this crate.
pub mod CentralOwes
pub mod CipherQueues
pub mod EachPhase
pub mod OwingControls
pub mod OwingEnds
pub mod SentIndications
