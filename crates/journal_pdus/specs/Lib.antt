-- The definitions of this crate.
pub mod Settled
pub mod Sealed
pub mod AtOnce
pub mod Exchanged
pub mod Undelivered
pub mod Answered
pub mod InEvent
pub mod OpenedLinks
pub mod Resetting
pub mod Lawful
-- what the crates above use of those below
pub use Rattle.journal_moves.specs.journal_wants.journal_sending.controller_model as controller_model
pub use Rattle.journal_moves.specs.journal_wants.journal_sending.journal_acks as journal_acks
pub use Rattle.journal_moves.specs.journal_wants.journal_sending.journal_data as journal_data
pub use Rattle.journal_failures.specs.journal_outcomes.journal_collisions as journal_collisions
pub use Rattle.journal_failures.specs.journal_outcomes.journal_collisions.journal_agreement as journal_agreement
pub use Rattle.journal_failures.specs as journal_failures
pub use Rattle.journal_seals.specs.journal_forgeries as journal_forgeries
pub use Rattle.journal_hearings.specs as journal_hearings
pub use Rattle.journal_moves.specs.journal_wants.journal_sending.journal_hosts as journal_hosts
pub use Rattle.journal_moves.specs.journal_wants.journal_sending.journal_leaving as journal_leaving
pub use Rattle.journal_moves.specs.journal_wants.journal_sending.journal_links as journal_links
pub use Rattle.journal_moves.specs.journal_wants.journal_sending.journal_packets as journal_packets
pub use Rattle.journal_moves.specs.journal_wants.journal_sending as journal_sending
pub use Rattle.journal_seals.specs.journal_sealing as journal_sealing
pub use Rattle.journal_seals.specs as journal_seals
pub use Rattle.journal_moves.specs as journal_moves
pub use Rattle.journal_rules.specs as journal_rules
pub use Rattle.journal_slots.specs as journal_slots
pub use Rattle.journal_turns.specs as journal_turns
pub use Rattle.journal_words.specs as journal_words
pub use Rattle.journal_moves.specs.journal_wants.journal_sending.journal_data.link_end as link_end
pub use Rattle.journal_moves.specs.journal_wants.journal_sending.journal_data.link_model as link_model
pub use Rattle.journal_moves.specs.journal_wants.journal_sending.journal_data.run_laws as run_laws
pub use Rattle.journal_moves.specs.journal_wants.journal_sending.run_model as run_model
pub use Rattle.journal_moves.specs.journal_wants.journal_sending.journal_due as journal_due
pub use Rattle.journal_moves.specs.journal_wants.journal_sending.journal_controls as journal_controls
