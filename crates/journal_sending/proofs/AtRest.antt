-- Before each turn of a run of a pair, and at its end, no PDU is announced whose packet did not come, and none is to be taken.
use Rattle.std.proofs.Common.{◌≡◌, ℕ, true, None, List, ◌∷◌, ◌++◌, sym, ap, subst, ◌∙◌}
use Rattle.ble_base.specs.declared.roles.Side.{Side}
use Rattle.ble_base.specs.declared.roles.Side.TheVariants.{A, B}
use Rattle.journal.specs.declared.entries.Entry.TheVariants.{Turn}
use Rattle.journal_leaving.proofs.link_model.Hearing.{IsHeardWhole}
use Rattle.journal_leaving.specs.run_model.Feeding.{AreDistinct}
use Rattle.journal_leaving.specs.run_model.History.{Event}
use Rattle.journal_leaving.specs.run_model.Journal.{journal_of, side_of}
use Rattle.journal_leaving.specs.run_model.LinkEnds.{HaveAddresses}
use Rattle.journal_leaving.specs.run_model.Links.{links_of}
use Rattle.journal_leaving.specs.run_model.Run.{Given, GoesOn, history_of, run_of, setup_at}
use Rattle.journal_leaving.proofs.run_model.EntryEvents.{is_of_event}
use Rattle.journal_leaving.proofs.run_model.LinkEnds.{AreTaken, IsUnderstood}
use Rattle.journal_leaving.proofs.run_model.Stations.{is_in}
use Rattle.journal_leaving.proofs.run_model.Walk.{Place, IsKept, NoTurn}
use Rattle.journal_leaving.proofs.journal_data.run_laws.DistinctAccess.{AreApart}
use Rattle.journal_leaving.proofs.journal_packets.AccessOrder.{AreNth}
use Rattle.journal_leaving.proofs.journal_packets.SoFar.{IsBelongingSoFar}
use Rattle.journal_leaving.specs.journal_acks.link_calls.Uses.{sends_under}
use Rattle.journal_leaving.proofs.journal_acks.Known.{known_of}
use Rattle.journal_leaving.proofs.journal_acks.Seen.{IsSeen, seen_last, seen_turn}
use Rattle.journal_leaving.proofs.journal_acks.Standing.{phased_at}
use Rattle.journal_leaving.proofs.journal_acks.TwoStations.{IsOfTwo}
use Rattle.journal_leaving.proofs.journal_data.FewLinks.{HaveFewLinks}
use Rattle.journal_leaving.proofs.OnlyOpen.{turn_of_line}
use Rattle.journal_sending.specs.Announced.{announced_pdu}
use Rattle.journal_sending.specs.Pending.{pending_pdu}
use Rattle.journal_sending.specs.Resting.{AllAreAtRest, IsAtRest}
use Rattle.journal_sending.proofs.TakenInRuns.{IsTakenAt, taken_first, taken_kept}
use Rattle.journal_sending.proofs.Told.{off_told}
use Rattle.journal_sending.proofs.ToldInRuns.{IsToldAt, told_first, told_kept}
use Rattle.journal_fixing.specs.journal_controls.journal_ends.Asked.{Words}
use Rattle.journal_fixing.specs.journal_controls.journal_ends.GivenWords.{GivesWords}

-- each side is that of a station
pub by_side : (given : Given) → IsOfTwo given → (T : Side → Type 0) → ((station : ℕ) → is_in station given.stations ≡ true → T (side_of station)) → (side : Side) → T side
by_side given are_two T all A = all 0 (ap (is_in 0) are_two)
by_side given are_two T all B = all 1 (ap (is_in 1) are_two)

module _ (words : Words) (whole : IsHeardWhole) (understood : IsUnderstood) (taken : AreTaken) (nth : AreNth) (apart : AreApart) (given : Given) (are_two : IsOfTwo given) (few_links : HaveFewLinks given)
    (six : HaveAddresses given) (gives : GivesWords given words) (distinct : AreDistinct given.stations) (eight : (station : ℕ) → (setup_at given station).host_buffers ≡ 8)
    (air : (station : ℕ) → (setup_at given station).air_buffers ≡ 8) where
  abbrev Q : Place → List Event → Type 0
  Q place history = IsBelongingSoFar given place history

  -- ---- no PDU is announced

  abbrev NoneAnnounced : List Event → Type 0
  NoneAnnounced history = (side : Side) → announced_pdu side (journal_of history) ≡ None

  sees_none_announced : IsSeen given (IsToldAt given Q) NoneAnnounced (λ history station channel octets. Unit {0})
  sees_none_announced = record {
    turn = λ history is. by_side given are_two (λ side. announced_pdu side (journal_of history) ≡ None)
        (λ station in_it. off_told given station history
        (λ handle. ap (sends_under handle) (phased_at given NoTurn history is.is.data_is.counted.holds.hearing.stand station in_it).phase)
        (is.told_is station in_it));
    packet = λ phases done left station channel octets history are wanted is. tt;
  }

  keeps_told : IsKept given (IsToldAt given Q)
  keeps_told = told_kept given whole Q (known_of understood taken nth apart given are_two six) are_two few_links six distinct eight

  -- ---- none is to be taken

  abbrev NonePending : List Event → Type 0
  NonePending history = (side : Side) → pending_pdu words side (journal_of history) ≡ None

  sees_none_pending : IsSeen given (IsTakenAt words given) NonePending (λ history station channel octets. Unit {0})
  sees_none_pending = record {
    turn = λ history is. by_side given are_two (λ side. pending_pdu words side (journal_of history) ≡ None) is.pending_pdu;
    packet = λ phases done left station channel octets history are wanted is. tt;
  }

  keeps_taken : IsKept given (IsTakenAt words given)
  keeps_taken = taken_kept words whole understood taken nth apart given are_two few_links six gives distinct eight air

  -- ---- in a run

  pub resting_lines : AllAreAtRest words (journal_of (history_of (run_of given)))
  resting_lines = λ front rest slot a_on b_on is.
      let one = is_of_event (history_of (run_of given)) front rest (Turn slot a_on b_on) is in
      let turn = turn_of_line (links_of one.before) one.event slot a_on b_on one.entry_is in
      let at = one.is_at ∙ ap (λ event. one.before ++ event ∷ one.after) turn.is in
      subst (IsAtRest words) (sym one.front_is) (λ side. (
        seen_turn given (IsToldAt given Q) keeps_told NoneAnnounced (λ history station channel octets. Unit {0}) sees_none_announced (told_first given)
            one.before one.after turn.slot turn.radios at side,
        seen_turn given (IsTakenAt words given) keeps_taken NonePending (λ history station channel octets. Unit {0}) sees_none_pending (taken_first words given)
            one.before one.after turn.slot turn.radios at side,
      ))

  pub resting_last : (history : List Event) → run_of given ≡ GoesOn history → IsAtRest words (journal_of history)
  resting_last history goes = λ side. (
    seen_last given (IsToldAt given Q) keeps_told NoneAnnounced (λ history station channel octets. Unit {0}) sees_none_announced (told_first given) history goes side,
    seen_last given (IsTakenAt words given) keeps_taken NonePending (λ history station channel octets. Unit {0}) sees_none_pending (taken_first words given) history goes side,
  )
