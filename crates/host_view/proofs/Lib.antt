-- The lemmas of this crate.
pub mod TakenCommands
-- what the crates above use of those below
pub use Rattle.scan_init.proofs as scan_init
