-- The lemmas of this crate.
pub mod CentralGoing
pub mod CentralTaking
pub mod FewWait
pub mod PeripheralGoing
pub mod PeripheralTaking
pub mod Stopping
pub mod SubLists
pub mod Untaken
