-- What the places lend, how calls by a pointer reach them, and what cells say of their values.
pub mod Chains
pub mod Lending
pub mod Memory
pub mod Rows
pub mod Values
