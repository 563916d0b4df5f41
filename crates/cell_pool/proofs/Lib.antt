-- Lemmas on the values of cells.
pub mod Numbers
pub mod Soundness
