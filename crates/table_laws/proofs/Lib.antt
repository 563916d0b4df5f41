-- The lemmas of this crate.
pub mod Numbers
pub mod Outcomes
pub mod Kept
pub mod Begun
pub mod Taken
pub mod Going
pub mod Given
pub mod Bounds
pub mod Roles
pub mod LastPdus
pub mod Encrypting
pub mod OneProcedure
pub mod OneAtATime
pub mod Quiet
pub mod WorkedCalls
