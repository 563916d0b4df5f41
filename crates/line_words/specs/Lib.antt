-- The definitions that the contracts of this crate cite.
pub mod Numbers
pub mod Parts
pub mod Signs
pub mod Text
