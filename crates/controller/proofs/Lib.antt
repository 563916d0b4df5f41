-- The lemmas of this crate.
pub mod Accepting
pub mod Asking
pub mod Beginning
pub mod Connecting
pub mod Following
pub mod Handing
pub mod FrameOctets
pub mod Going
pub mod Hearing
pub mod Shutting
