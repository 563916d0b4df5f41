-- Proof of `events::each_side_enters_its_events_in_order`.
use Rattle.std.proofs.Common.{refl}
use Rattle.link_calls.specs.run_model.Pair.{given_of}
use Rattle.link_calls.proofs.run_model.LinkEnds.{pair_addresses}
use Rattle.journal_acks.proofs.events.each_side_enters_its_events_in_order.Goals as goal

pub returns : goal.returns
returns c = λ a b script front rest side number event channel six six_too at.
    c.links_of_two_stations_keep_to_the_journal.ensures.events (given_of a b script) front rest side number event channel refl (pair_addresses a b script six six_too) at
