-- Lemmas on lists, packets and banks.
pub mod AllLinks
pub mod Histories
pub mod InCells
pub mod Links
pub mod Octets
pub mod OneLink
pub mod Order
pub mod Places
pub mod Steps
pub mod Sweep
