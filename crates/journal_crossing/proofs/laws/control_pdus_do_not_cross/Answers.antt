-- The proof of the law `control_pdus_do_not_cross`.
use Rattle.std.proofs.Common.{◌≡◌, [], ◌∷◌, refl}
use Rattle.journal_collisions.specs.journal_data.Followed.{Follows, Mixed}
use Rattle.journal_collisions.specs.journal_data.run_model.Journal.{journal_of}
use Rattle.journal_collisions.specs.journal_data.run_model.LinkEnds.{HaveAddresses}
use Rattle.journal_collisions.specs.journal_data.run_model.Pair.{given_of}
use Rattle.journal_collisions.specs.journal_data.run_model.Run.{Given, history_of, run_of}
use Rattle.journal_collisions.proofs.journal_endings.journal_indications.journal_data.run_model.LinkEnds.{pair_addresses}
use Rattle.journal_crossing.specs.Crossing.{AllControlsAreTaken}
use Rattle.journal_crossing.proofs.AllTaken.{all_taken}
use Rattle.journal_crossing.proofs.laws.control_pdus_do_not_cross.Goals as goal

pub returns : goal.returns
returns c =
    let of_two : (given : Given) (mixed : Mixed) → given.stations ≡ 0 ∷ 1 ∷ [] → HaveAddresses given → Follows given mixed
    → AllControlsAreTaken mixed (journal_of (history_of (run_of given))) =
    λ given mixed are six follows. all_taken c.packet_tells_its_pdu.ensures.heard c.a_pdu_is_understood.ensures.says c.connections_are_taken.ensures.taken
    c.searches_give_each_valid_address.ensures.valid c.searches_give_each_valid_address.ensures.distinct given are six mixed follows
    (record {
      central = c.control_pdus_do_not_cross_in_each_run.ensures.central;
      peripheral = c.control_pdus_do_not_cross_in_each_run.ensures.peripheral;
      lasts = c.control_pdus_do_not_cross_in_each_run.ensures.lasts;
      agree = c.ends_that_last_are_sound.ensures.agreement;
    }) in record {
      two_stations = of_two;
      pair = λ a b script mixed six six_too. of_two (given_of a b script) mixed refl (pair_addresses a b script six six_too);
    }
