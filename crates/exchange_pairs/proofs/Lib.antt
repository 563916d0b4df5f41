-- The lemmas of this crate.
pub mod Exchanges
pub mod ExchangesTried
pub mod LengthParts
pub mod LengthsFixed
pub mod LengthsKept
pub mod Values
pub mod Versions
pub mod VersionsTried
