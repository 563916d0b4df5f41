-- Data that waits for a link or for the host.
pub mod Packets
pub mod Banks
pub mod Lending
pub mod History
pub mod Cells
