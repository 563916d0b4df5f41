-- Proof of `read::peripherals_read_what_the_central_sent_last`.
use Rattle.std.proofs.Common.{◌≡◌, [], ◌∷◌, refl}
use Rattle.journal_agreement.specs.Taken.{AllAreReadAsSent}
use Rattle.journal_agreement.specs.journal_data.Followed.{Follows, Mixed}
use Rattle.journal_agreement.specs.journal_data.run_model.Journal.{journal_of}
use Rattle.journal_agreement.specs.journal_data.run_model.LinkEnds.{HaveAddresses}
use Rattle.journal_agreement.specs.journal_data.run_model.Pair.{given_of}
use Rattle.journal_agreement.specs.journal_data.run_model.Run.{Given, history_of, run_of}
use Rattle.journal_agreement.proofs.journal_data.journal_links.OfTwo.{are_distinct}
use Rattle.journal_agreement.proofs.journal_data.run_model.LinkEnds.{pair_addresses}
use Rattle.journal_indications.proofs.ReadAsSent.{read_as_sent}
use Rattle.journal_indications.proofs.read.peripherals_read_what_the_central_sent_last.Goals as goal

pub returns : goal.returns
returns c =
    let of_two : (given : Given) (mixed : Mixed) → given.stations ≡ 0 ∷ 1 ∷ [] → HaveAddresses given → Follows given mixed
    → AllAreReadAsSent mixed (journal_of (history_of (run_of given))) =
    λ given mixed are six follows. read_as_sent c.packet_tells_its_pdu.ensures.heard c.a_pdu_is_understood.ensures.says c.connections_are_taken.ensures.taken
    c.searches_give_each_valid_address.ensures.valid c.searches_give_each_valid_address.ensures.distinct given are six mixed follows
    c.a_central_keeps_the_indications_that_it_sent.ensures c.an_end_follows_its_notes.ensures.event
    (λ before rest octets central peripheral room first later handle number llid body indication.
    c.a_peripheral_of_two_takes_what_the_central_sent_last.ensures.two given 0 1 before rest octets central peripheral room first later handle number llid
    body indication
    are (are_distinct given are) six) in record {
      two_stations = of_two;
      pair = λ a b script mixed six six_too. of_two (given_of a b script) mixed refl (pair_addresses a b script six six_too);
    }
