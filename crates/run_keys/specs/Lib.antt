-- What the crates above use of those below.
pub use Rattle.run_pairs.specs as run_pairs
