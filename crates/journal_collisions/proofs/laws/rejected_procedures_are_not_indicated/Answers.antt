-- The proof of the law `rejected_procedures_are_not_indicated`.
use Rattle.std.proofs.Common.{◌≡◌, [], ◌∷◌, refl}
use Rattle.journal_endings.specs.journal_indications.journal_data.Followed.{Follows, Mixed}
use Rattle.journal_endings.specs.journal_indications.journal_data.run_model.Journal.{journal_of}
use Rattle.journal_endings.specs.journal_indications.journal_data.run_model.LinkEnds.{HaveAddresses}
use Rattle.journal_endings.specs.journal_indications.journal_data.run_model.Pair.{given_of}
use Rattle.journal_endings.specs.journal_indications.journal_data.run_model.Run.{Given, history_of, run_of}
use Rattle.journal_endings.proofs.journal_indications.journal_data.run_model.LinkEnds.{pair_addresses}
use Rattle.journal_collisions.specs.Outcomes.{NoneIsIndicated}
use Rattle.journal_collisions.proofs.Indicated.{all_indicated}
use Rattle.journal_collisions.proofs.laws.rejected_procedures_are_not_indicated.Goals as goal

pub returns : goal.returns
returns c =
    let of_two : (given : Given) (mixed : Mixed) → given.stations ≡ 0 ∷ 1 ∷ [] → HaveAddresses given → Follows given mixed
    → NoneIsIndicated mixed (journal_of (history_of (run_of given))) =
    λ given mixed are six follows. all_indicated c.packet_tells_its_pdu.ensures.heard c.a_pdu_is_understood.ensures.says c.connections_are_taken.ensures.taken
    c.searches_give_each_valid_address.ensures.valid c.searches_give_each_valid_address.ensures.distinct given are six mixed follows
    c.the_central_prevails_in_each_run.ensures.taken c.control_pdus_do_not_cross_in_each_run.ensures.refused in record {
      two_stations = of_two;
      pair = λ a b script mixed six six_too. of_two (given_of a b script) mixed refl (pair_addresses a b script six six_too);
    }
