-- The lemmas of this crate.
pub mod CallNumbers
pub mod FilesByName
pub mod StoreChanges
pub mod Fronts
