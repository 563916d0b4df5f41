-- Before each turn of a run of a pair, and at its end, each host has received all data that its side took, or could take no
-- more, and all its packets that are acknowledged are reported to it.
use Rattle.std.proofs.Common.{◌≡◌, ℕ, true, Some, List, [], ◌∷◌, ◌++◌, inl, inr, sym, ap, subst, ◌∙◌, append-nil}
use Rattle.ble_base.specs.declared.roles.Side.{Side}
use Rattle.journal.specs.declared.entries.Entry.TheVariants.{Turn}
use Rattle.journal_moves.proofs.journal_wants.journal_sending.AtRest.{by_side}
use Rattle.journal_moves.proofs.journal_wants.journal_sending.journal_data.link_model.Hearing.{IsHeardWhole}
use Rattle.journal_moves.proofs.journal_wants.journal_sending.journal_data.link_model.Sending.{past_together}
use Rattle.journal_moves.specs.journal_wants.journal_sending.journal_data.open_links.OpenLinks.{OpenLink, facts_in, link_at}
use Rattle.journal_moves.specs.journal_wants.journal_sending.controller_model.Between.{is_between_turns}
use Rattle.journal_moves.specs.journal_wants.journal_sending.controller_model.Since.{data_waiting}
use Rattle.journal_moves.specs.journal_wants.journal_sending.controller_model.Step.{TurnEnds}
use Rattle.journal_moves.proofs.journal_wants.journal_sending.controller_model.BetweenTurns.{none_complete}
use Rattle.journal_moves.specs.journal_wants.journal_sending.run_model.Feeding.{AreDistinct}
use Rattle.journal_moves.specs.journal_wants.journal_sending.run_model.History.{Event, Called, TurnBegan, past_of, turns_begun}
use Rattle.journal_moves.specs.journal_wants.journal_sending.run_model.Journal.{journal_of, side_of}
use Rattle.journal_moves.specs.journal_wants.journal_sending.run_model.LinkEnds.{HaveAddresses}
use Rattle.journal_moves.specs.journal_wants.journal_sending.run_model.Links.{links_of}
use Rattle.journal_moves.specs.journal_wants.journal_sending.run_model.Run.{Given, GoesOn, facts_at, history_of, run_of, setup_at}
use Rattle.journal_moves.proofs.journal_wants.journal_sending.run_model.EntryEvents.{is_of_event}
use Rattle.journal_moves.proofs.journal_wants.journal_sending.run_model.LinkEnds.{AreTaken, IsUnderstood}
use Rattle.journal_moves.proofs.journal_wants.journal_sending.run_model.Stations.{is_in}
use Rattle.journal_moves.proofs.journal_wants.journal_sending.run_model.Walk.{Place, NoTurn, IsKept}
use Rattle.journal_moves.proofs.journal_wants.journal_sending.journal_data.run_laws.DistinctAccess.{AreApart}
use Rattle.journal_moves.proofs.journal_wants.journal_sending.journal_data.run_laws.TurnPlaces.{stands_at}
use Rattle.journal_moves.proofs.journal_wants.journal_sending.journal_packets.AccessOrder.{AreNth}
use Rattle.journal_moves.proofs.journal_wants.journal_sending.journal_packets.SoFar.{IsBelongingSoFar}
use Rattle.journal_moves.proofs.journal_wants.journal_sending.journal_acks.Known.{known_of}
use Rattle.journal_moves.proofs.journal_wants.journal_sending.journal_acks.RunCounts.{between_turns}
use Rattle.journal_moves.proofs.journal_wants.journal_sending.journal_acks.Seen.{IsSeen, seen_last, seen_turn}
use Rattle.journal_moves.proofs.journal_wants.journal_sending.journal_acks.TwoStations.{IsOfTwo}
use Rattle.journal_moves.specs.journal_wants.journal_sending.journal_data.HostLines.{OpenUnder}
use Rattle.journal_moves.specs.journal_wants.journal_sending.journal_data.Lines.{lines_of}
use Rattle.journal_moves.proofs.journal_wants.journal_sending.journal_data.EachLine.{lines_at, numbers_at}
use Rattle.journal_moves.proofs.journal_wants.journal_sending.journal_data.HeldLinks.{one_of}
use Rattle.journal_moves.proofs.journal_wants.journal_sending.journal_data.Openness.{is_open}
use Rattle.journal_moves.proofs.journal_wants.journal_sending.journal_acks.Exchanging.{number_at}
use Rattle.journal_moves.proofs.journal_wants.journal_sending.journal_data.Ends.{sound}
use Rattle.journal_moves.proofs.journal_wants.journal_sending.journal_data.FedInRuns.{between_standing}
use Rattle.journal_moves.proofs.journal_wants.journal_sending.journal_data.FewLinks.{HaveFewLinks}
use Rattle.journal_moves.proofs.journal_wants.journal_sending.journal_data.NotedLines.{is_link}
use Rattle.journal_moves.proofs.journal_wants.journal_sending.journal_data.StationLines.{IsStationBooked}
use Rattle.journal_hearings.proofs.LinksOpened.{turn_event}
use Rattle.journal_pdus.specs.Exchanged.{AllAreSettled}
use Rattle.journal_pdus.specs.Settled.{AreSettled, IsSettled}
use Rattle.journal_pdus.proofs.HandedUp.{AreHanded, IsFullThen, IsHandedOver, handed_first, handed_kept}
use Rattle.journal_pdus.proofs.SettledEnds.{credited_end, received_end}
use Rattle.journal_moves.proofs.journal_wants.journal_sending.Together.{IsKnownAt, known_first, known_kept}

-- ---- the links that are open by the lines

-- one of them is open under its handle, with its number
pub record IsOfPlace (given : Given) (station : ℕ) (history : List Event) (one : OpenUnder) : Type 0 where
  pub handle : ℕ
  pub link : OpenLink
  pub at : link_at handle (facts_at given station history).links ≡ Some link
  pub number_is : one.link ≡ number_at station handle history

pub open_in : (given : Given) (station : ℕ) (history : List Event) (before after : List OpenUnder) (one : OpenUnder) → IsStationBooked given station history
    → (lines_at station history).links ≡ before ++ one ∷ after → IsOfPlace given station history one
open_in given station history before after one booked are =
    let of = one_of (setup_at given station).links (lines_at station history).links (numbers_at station history) (is_open (facts_at given station history).links) booked.links
    before after one are in
    let found = is_link (link_at one.handle (facts_at given station history).links) of.is_open in
    record { handle = one.handle; link = found.link; at = found.is; number_is = of.number_is }

-- ---- between two turns

abbrev AreHandedOver : Given → List Event → Type 0
AreHandedOver given history = (station : ℕ) → is_in station given.stations ≡ true → IsHandedOver given station history

module _ (given : Given) (Q : Place → List Event → Type 0) (are_two : IsOfTwo given) (few_links : HaveFewLinks given) (eight : (station : ℕ) → (setup_at given station).host_buffers ≡ 8)
    (history : List Event) (is : IsKnownAt given Q NoTurn history) where
  rests : (station : ℕ) → is_in station given.stations ≡ true → is_between_turns (past_of station history) ≡ true
  rests station in_it =
      between_standing (past_of station history) (stands_at NoTurn station (turns_begun history)) (is.data_is.counted.holds.hearing.stand station in_it)

  settled_on : (station handle : ℕ) → is_in station given.stations ≡ true → (link : OpenLink) → link_at handle (facts_at given station history).links ≡ Some link
      → IsHandedOver given station history → IsSettled (number_at station handle history) (side_of station) (journal_of history)
  settled_on station handle in_it link at over =
      let setup = setup_at given station in
      let past = past_of station history in
      let number = number_at station handle history in
      let journal = journal_of history in
      let waiting = data_waiting handle (facts_at given station history).received in
      let booked = (sound given station handle history link (few_links.links station) (eight station) (is.data_is.are.well station in_it) at).booked in record {
        received = elim over [
          | inl none ↦ inl (received_end number (side_of station) journal (facts_in link) waiting booked (ap (data_waiting handle) none))
          | inr was ↦ inr was
        ];
        credited = credited_end number (side_of station) journal (facts_in link) waiting booked
            (past_together link.setup link.past)
            (none_complete setup past handle link (rests station in_it) at)
            (is.lined.lines station handle link in_it at)
            (between_turns given Q history is.data_is.counted station handle link in_it at).acked;
      }

  abbrev IsSettledSide : Side → Type 0
  IsSettledSide side = (before after : List OpenUnder) (one : OpenUnder) → (lines_of 8 side (journal_of history)).links ≡ before ++ one ∷ after
      → IsSettled one.link side (journal_of history)

  settled_side : AreHandedOver given history → (station : ℕ) → is_in station given.stations ≡ true → IsSettledSide (side_of station)
  settled_side over station in_it = λ before after one are.
      let found = open_in given station history before after one (is.data_is.are.well station in_it).booked are in
      subst (λ n. IsSettled n (side_of station) (journal_of history)) (sym found.number_is) (settled_on station found.handle in_it found.link found.at (over station in_it))

  settled_between : AreHandedOver given history → AreSettled (journal_of history)
  settled_between over = λ side before after one are. by_side given are_two IsSettledSide (settled_side over) side before after one are

-- ---- in a run

module _ (whole : IsHeardWhole) (understood : IsUnderstood) (taken : AreTaken) (nth : AreNth) (apart : AreApart) (given : Given) (are_two : IsOfTwo given) (few_links : HaveFewLinks given)
    (six : HaveAddresses given) (distinct : AreDistinct given.stations) (eight : (station : ℕ) → (setup_at given station).host_buffers ≡ 8)
    (full : (station : ℕ) (before rest : List Event) → history_of (run_of given) ≡ before ++ Called station TurnEnds ∷ rest → IsFullThen given before station) where
  abbrev P : Place → List Event → Type 0
  P place history = IsKnownAt given (IsBelongingSoFar given) place history

  run_kept : IsKept given P
  run_kept = known_kept whole given (IsBelongingSoFar given) (known_of understood taken nth apart given are_two six) are_two few_links six distinct eight

  abbrev IsSettledIf : List Event → Type 0
  IsSettledIf history = AreHandedOver given history → AreSettled (journal_of history)

  abbrev IsAny : List Event → ℕ → ℕ → List ℕ → Type 0
  IsAny history station channel octets = Unit {0}

  sees : IsSeen given P IsSettledIf IsAny
  sees = record {
    turn = settled_between given (IsBelongingSoFar given) are_two few_links eight;
    packet = λ phases done left station channel octets history are wanted is. tt;
  }

  sees_handed : IsSeen given (AreHanded given are_two full) (AreHanded given are_two full NoTurn) IsAny
  sees_handed = record { turn = λ history has. has; packet = λ phases done left station channel octets history are wanted has. tt }

  pub settled_lines : AllAreSettled (journal_of (history_of (run_of given)))
  settled_lines = λ front rest slot a_on b_on is.
      let one = is_of_event (history_of (run_of given)) front rest (Turn slot a_on b_on) is in
      let turn = turn_event (links_of one.before) one.event slot a_on b_on one.entry_is in
      let at = one.is_at ∙ ap (λ event. one.before ++ event ∷ one.after) turn.is in
      subst AreSettled (sym one.front_is)
      (seen_turn given P run_kept IsSettledIf IsAny sees (known_first given) one.before one.after turn.slot turn.radios at
      (seen_turn given (AreHanded given are_two full) (handed_kept given are_two full) (AreHanded given are_two full NoTurn) IsAny sees_handed (handed_first given are_two full)
      one.before one.after turn.slot turn.radios at (TurnBegan turn.slot turn.radios ∷ one.after) at))

  pub settled_last : (history : List Event) → run_of given ≡ GoesOn history → AreSettled (journal_of history)
  settled_last history goes =
      seen_last given P run_kept IsSettledIf IsAny sees (known_first given) history goes
      (seen_last given (AreHanded given are_two full) (handed_kept given are_two full) (AreHanded given are_two full NoTurn) IsAny sees_handed (handed_first given are_two full) history goes
      [] (ap (λ run. history_of run) goes ∙ sym (append-nil history)))
