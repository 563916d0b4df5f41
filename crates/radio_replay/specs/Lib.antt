-- The definitions that the contracts of this crate cite.
pub mod Damage
pub mod FateWord
pub mod Gathering
pub mod Limits
pub mod Storage
pub mod Numbers
pub mod Schedule
pub mod Script
pub mod SideLine
pub mod Spelling
pub mod TurnLine
pub mod RandomOctets
pub mod LoadStreams
pub mod LoadSchedule
