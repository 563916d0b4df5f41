-- The proof of the law `a_link_fails_only_after_a_forged_packet`.
use Rattle.std.proofs.Common.{◌≡◌, [], ◌∷◌, refl}
use Rattle.journal_outcomes.proofs.journal_crossing.journal_collisions.journal_endings.run_pairs.LinkSteps.{asks_come}
use Rattle.journal_outcomes.specs.journal_collisions.journal_endings.journal_indications.journal_data.Followed.{Follows, Mixed}
use Rattle.journal_outcomes.specs.journal_collisions.journal_endings.journal_indications.journal_data.run_model.Journal.{journal_of}
use Rattle.journal_outcomes.specs.journal_collisions.journal_endings.journal_indications.journal_data.run_model.LinkEnds.{HaveAddresses}
use Rattle.journal_outcomes.specs.journal_collisions.journal_endings.journal_indications.journal_data.run_model.Pair.{given_of}
use Rattle.journal_outcomes.specs.journal_collisions.journal_endings.journal_indications.journal_data.run_model.Run.{Given, history_of, run_of}
use Rattle.journal_outcomes.proofs.journal_crossing.journal_collisions.journal_endings.journal_indications.journal_data.run_model.LinkEnds.{pair_addresses}
use Rattle.journal_failures.specs.Failures.{AllFailuresAreForged}
use Rattle.journal_failures.proofs.FailedLines.{all_failures}
use Rattle.journal_failures.proofs.laws.a_link_fails_only_after_a_forged_packet.Goals as goal

pub returns : goal.returns
returns c =
    let of_two : (given : Given) (mixed : Mixed) → given.stations ≡ 0 ∷ 1 ∷ [] → HaveAddresses given → Follows given mixed
    → AllFailuresAreForged mixed (journal_of (history_of (run_of given))) =
    λ given mixed are six follows. all_failures c.packet_tells_its_pdu.ensures.heard c.a_sealed_packet_is_opened.ensures.opened c.a_pdu_is_understood.ensures.says
    c.connections_are_taken.ensures.taken c.searches_give_each_valid_address.ensures.valid c.searches_give_each_valid_address.ensures.distinct given are six
    (asks_come c.what_hosts_ask_may_come.ensures given) mixed follows (c.no_procedure_ends_a_link_but_a_late_one.ensures.procedures given)
    (c.packets_of_a_link_are_read_as_sent.ensures given) in record {
      two_stations = of_two;
      pair = λ a b script mixed six six_too. of_two (given_of a b script) mixed refl (pair_addresses a b script six six_too);
    }
