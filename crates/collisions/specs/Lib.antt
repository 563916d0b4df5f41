-- The definitions of this crate.
pub mod Agreement
pub mod CentralTable
pub mod CollisionLaws
pub mod JointRun
pub mod Meaning
pub mod Numbers
pub mod PeripheralTable
pub mod Rows
