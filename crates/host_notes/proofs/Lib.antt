-- The lemmas of this crate.
pub mod Words
pub mod Entered
pub mod InEvent
pub mod Received
pub mod AskedLinks
pub mod Handed
