-- The definitions that the contracts of this crate cite.
pub mod View
pub mod Links
pub mod Refusals
pub mod Status
pub mod OnLinks
pub mod Flow
pub mod Changes
pub mod Noted
pub mod InRange
-- what the crates above use of those below
pub use Rattle.scan_init.specs as scan_init
