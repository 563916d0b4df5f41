-- What a table holds, and how its cells keep it.
pub mod Cells
pub mod Lending
