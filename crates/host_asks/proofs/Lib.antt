-- The lemmas of this crate.
pub mod Keeping
pub mod Outcomes
pub mod Tables
pub mod Controls
pub mod Versions
pub mod Ends
pub mod Accepted
pub mod Accepting
pub mod Lasting
pub mod LinksViewed
pub mod EndsViewed
pub mod StepsListed
pub mod OpenLinksKnown
pub mod OpenLinksGoing
pub mod PairsCommanded
