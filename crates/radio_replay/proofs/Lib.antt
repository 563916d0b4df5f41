-- The lemmas of this crate.
pub mod Examples
pub mod Facts
pub mod Firsts
pub mod Gathered
pub mod SpelledNumbers
pub mod SpelledSchedule
pub mod Patterns
pub mod Settings
pub mod Strikes
pub mod Drawn
pub mod LoadLines
pub mod LoadTurns
pub mod LoadExamples
