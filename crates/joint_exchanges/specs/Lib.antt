-- The definitions of this crate.
pub mod Agreement
pub mod JointMoves
pub mod Machines
pub mod Moves
pub mod Parts
pub mod Runs
pub mod SentByRole
pub mod Waiting
pub mod Worked
-- what the crates above use of those below
pub use Rattle.exchange_steps.specs as exchange_steps
pub use Rattle.exchange_steps.specs.exchange_pairs as exchange_pairs
