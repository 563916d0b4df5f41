-- The lemmas of this crate.
pub mod LowBits
pub mod Damages
pub mod NeverWhole
pub mod Listeners
pub mod ConnectPdus
pub mod NoStop
pub mod Patterns
