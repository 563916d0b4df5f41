-- The lemmas of this crate.
pub mod MasksHeld
pub mod OctetsHeld
pub mod LineMasks
