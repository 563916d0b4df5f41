-- The lemmas of this crate.
mod Beginning
