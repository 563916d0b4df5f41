-- The proof of the law `colliding_procedures_are_rejected_next`.
use Rattle.std.proofs.Common.{◌≡◌, [], ◌∷◌, refl}
use Rattle.journal_endings.specs.journal_indications.journal_data.Followed.{Follows, Mixed}
use Rattle.journal_endings.specs.journal_indications.journal_data.run_model.LinkEnds.{HaveAddresses}
use Rattle.journal_endings.specs.journal_indications.journal_data.run_model.Pair.{given_of}
use Rattle.journal_endings.specs.journal_indications.journal_data.run_model.Run.{Given, history_of, run_of}
use Rattle.journal_endings.proofs.journal_indications.journal_data.run_model.LinkEnds.{pair_addresses}
use Rattle.journal_endings.specs.journal_indications.journal_data.run_model.Journal.{journal_of}
use Rattle.journal_collisions.specs.Collisions.{AllAreRejectedNext}
use Rattle.journal_collisions.proofs.RejectedNext.{all_rejected}
use Rattle.journal_collisions.proofs.laws.colliding_procedures_are_rejected_next.Goals as goal

pub returns : goal.returns
returns c =
    let of_two : (given : Given) (mixed : Mixed) → given.stations ≡ 0 ∷ 1 ∷ [] → HaveAddresses given → Follows given mixed
    → AllAreRejectedNext mixed (journal_of (history_of (run_of given))) =
    λ given mixed are six follows. all_rejected c.packet_tells_its_pdu.ensures.heard c.a_pdu_is_understood.ensures.says c.connections_are_taken.ensures.taken
    c.searches_give_each_valid_address.ensures.valid c.searches_give_each_valid_address.ensures.distinct given are six mixed follows
    c.the_central_prevails_in_each_run.ensures.taken in record {
      two_stations = of_two;
      pair = λ a b script mixed six six_too. of_two (given_of a b script) mixed refl (pair_addresses a b script six six_too);
    }
