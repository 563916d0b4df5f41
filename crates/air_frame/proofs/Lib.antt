-- The lemmas of this crate.
pub mod Bodies
pub mod Damage
pub mod Decided
pub mod Forms
