-- The lemmas of this crate.
pub mod KeyedAlike
pub mod DrawnLines
pub mod TakenWords
pub mod CallWords
pub mod KeptWords
pub mod RunWords
