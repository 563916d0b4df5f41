-- Lemmas on places and their cells.
pub mod InPlaces
