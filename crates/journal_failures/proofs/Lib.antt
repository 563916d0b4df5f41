-- The lemmas of this crate.
pub mod GoodPackets
pub mod AtCall
pub mod FailedLinks
pub mod HeardForged
pub mod HeardGood
pub mod FailedRuns
pub mod FailedLines
pub mod ShutLines
