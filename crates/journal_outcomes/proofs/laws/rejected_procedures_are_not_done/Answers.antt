-- The proof of the law `rejected_procedures_are_not_done`.
use Rattle.std.proofs.Common.{◌≡◌, ℕ, ◌≤◌, [], ◌∷◌, refl}
use Rattle.journal_crossing.specs.journal_data.Followed.{Follows, Mixed}
use Rattle.journal_crossing.specs.run_model.Journal.{journal_of}
use Rattle.journal_crossing.specs.run_model.LinkEnds.{HaveAddresses}
use Rattle.journal_crossing.specs.run_model.Pair.{given_of}
use Rattle.journal_crossing.specs.run_model.Run.{Given, history_of, run_of, setup_at}
use Rattle.journal_crossing.proofs.journal_data.FewLinks.{pair_links}
use Rattle.journal_crossing.proofs.journal_data.Law.{eight_of}
use Rattle.journal_crossing.proofs.run_model.LinkEnds.{pair_addresses}
use Rattle.journal_outcomes.specs.Done.{NoneIsDone}
use Rattle.journal_outcomes.proofs.AnsweredLines.{all_linked}
use Rattle.journal_outcomes.proofs.NotDone.{none_done}
use Rattle.journal_outcomes.proofs.laws.rejected_procedures_are_not_done.Goals as goal

pub returns : goal.returns
returns c =
    let says = c.a_pdu_is_understood.ensures.says in
    let taken = c.connections_are_taken.ensures.taken in
    let of_two : (given : Given) (mixed : Mixed) → given.stations ≡ 0 ∷ 1 ∷ [] → HaveAddresses given → Follows given mixed
    → ((station : ℕ) → (setup_at given station).links ≤ 4096)
    → ((station : ℕ) → (setup_at given station).host_buffers ≡ 8) → NoneIsDone mixed (journal_of (history_of (run_of given))) =
    λ given mixed are six follows few eight. none_done mixed follows.front (journal_of (history_of (run_of given)))
    (λ front rest is side link. c.data_of_two_stations_arrives_in_order.ensures given mixed front rest side link are six few eight follows is)
    (c.pdus_have_the_next_number.ensures.two_stations given are six)
    (c.colliding_procedures_are_rejected_next.ensures.two_stations given mixed are six follows)
    (c.rejected_procedures_are_refused.ensures.two_stations given mixed are six follows)
    (c.control_pdus_do_not_cross.ensures.two_stations given mixed are six follows)
    (c.nothing_is_taken_after_a_termination.ensures.two_stations given mixed are six follows)
    (all_linked says taken given are six)
    (c.procedures_are_done_as_they_are_answered.ensures.two_stations given are six) in record {
      two_stations = of_two;
      pair = λ a b script mixed six six_too follows.
          of_two (given_of a b script) mixed refl (pair_addresses a b script six six_too) follows (pair_links a b script).links (eight_of a b script);
    }
