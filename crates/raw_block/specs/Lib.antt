-- What a block holds, and how its memory is owned.
pub mod Cells
pub mod Lending
pub mod Lends
pub mod Ownership
pub mod Places
pub mod Regions
