-- Proof of `exchanges::each_end_counts_as_the_journal_says`.
use Rattle.std.proofs.Common.{refl}
use Rattle.link_calls.specs.run_model.Pair.{given_of}
use Rattle.link_calls.proofs.run_model.LinkEnds.{pair_addresses}
use Rattle.journal_acks.proofs.exchanges.each_end_counts_as_the_journal_says.Goals as goal

pub returns-clause-before_a_turn : goal.returns-clause-before_a_turn
returns-clause-before_a_turn c = λ a b script before rest slot radios station handle link six six_too is at is_open.
    c.links_of_two_stations_keep_to_the_journal.ensures.counts_before_a_turn (given_of a b script) before rest slot radios station handle link refl
    (pair_addresses a b script six six_too) is at is_open

pub returns-clause-at_the_end : goal.returns-clause-at_the_end
returns-clause-at_the_end c = λ a b script history station handle link six six_too is goes is_open.
    c.links_of_two_stations_keep_to_the_journal.ensures.counts_at_the_end (given_of a b script) history station handle link refl
    (pair_addresses a b script six six_too) is goes is_open
