-- The definitions that the contracts of this crate cite.
pub mod FileRow
pub mod PairFiles
pub mod Commands
pub mod Status
pub mod World
pub mod Conversions
pub mod Reading
pub mod Counts
pub mod LoadLine
pub mod Claims
pub mod Causes
pub mod Puts
pub mod Ending
