-- The definitions of this crate.
pub mod Field
pub mod Layout
pub mod Kind
pub mod Table
