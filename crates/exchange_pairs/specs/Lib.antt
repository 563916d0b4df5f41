-- The definitions of this crate.
pub mod Exchange
pub mod ExchangeLaws
pub mod ExchangeRun
pub mod LengthLaws
pub mod LengthPart
pub mod LengthRun
pub mod Lengths
pub mod Version
pub mod VersionLaws
pub mod VersionRun
pub mod Worked
