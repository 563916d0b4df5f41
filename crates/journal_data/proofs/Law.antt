-- In every journal of a run of a pair, after each of its lines, the data of both sides arrives in order.
use Rattle.std.proofs.Common.{◌≡◌, ℕ, zero, suc, true, false, Some, None, List, [], ◌∷◌, ◌++◌, length, refl, sym, ap, subst, ◌∙◌, append-nil, arith}
use Rattle.ble_base.specs.Side.{other_side}
use Rattle.ble_base.specs.declared.roles.Side.{Side}
use Rattle.ble_base.specs.declared.roles.Side.TheVariants.{A, B}
use Rattle.journal.specs.declared.entries.Entry.{Entry}
use Rattle.journal_acks.proofs.link_model.Hearing.{IsHeardWhole}
use Rattle.journal_acks.specs.open_links.OpenLinks.{OpenLink, link_at}
use Rattle.journal_acks.specs.controller_model.Side.{facts_of, notes_of}
use Rattle.radio_replay.specs.Script.{Script}
use Rattle.journal_acks.specs.run_model.Feeding.{AreDistinct, HasNoted}
use Rattle.journal_acks.specs.run_model.Journal.{journal_of, side_of}
use Rattle.journal_acks.specs.run_model.LinkEnds.{HaveAddresses}
use Rattle.journal_acks.specs.run_model.Pair.{given_of}
use Rattle.journal_acks.specs.run_model.Run.{Given, facts_at, history_of, run_of, setup_at}
use Rattle.journal_acks.proofs.run_model.EntryEvents.{is_of_event}
use Rattle.journal_acks.proofs.run_model.LinkEnds.{AreTaken, IsUnderstood, pair_addresses}
use Rattle.journal_acks.proofs.run_model.Ordered.{pair_distinct}
use Rattle.journal_acks.proofs.run_model.Stations.{is_in}
use Rattle.journal_acks.proofs.run_model.Walk.{NoTurn, IsStopped, IsWhole, ends_with, run_kept}
use Rattle.journal_acks.proofs.run_laws.DistinctAccess.{AreApart}
use Rattle.journal_acks.proofs.journal_packets.AccessOrder.{AreNth}
use Rattle.journal_acks.proofs.journal_packets.SoFar.{IsBelongingSoFar}
use Rattle.journal_acks.proofs.Known.{known_of}
use Rattle.journal_acks.proofs.RunCounts.{counts_first}
use Rattle.journal_acks.proofs.TwoStations.{IsOfTwo, other_of}
use Rattle.journal_data.specs.Delivered.{ArrivesInOrder}
use Rattle.journal_data.specs.Followed.{Follows, Mixed}
use Rattle.journal_data.specs.Lines.{lines_of}
use Rattle.journal_data.proofs.Credits.{few_first}
use Rattle.journal_data.proofs.DataInRuns.{AllArrive, IsDataSoFar, so_far_kept, well_arrive}
use Rattle.journal_data.proofs.EachLine.{lines_at}
use Rattle.journal_data.proofs.Ends.{IsWell, end_at, from_end}
use Rattle.journal_data.proofs.Fronts.{AreAlways, always_first}
use Rattle.journal_data.proofs.Followed.{AgreeUnmixed, IsFollowed, followed_at}
use Rattle.journal_data.proofs.KeptArriving.{AreArrived}
use Rattle.journal_data.proofs.KeptData.{IsDataAt}
use Rattle.journal_data.proofs.MineKept.{heard_none_mine}
use Rattle.journal_data.proofs.FewLinks.{HaveFewLinks, pair_links}
use Rattle.journal_data.proofs.Sides.{AreAhead}
use Rattle.journal_data.proofs.StationLines.{first_booked, none_at_first}
use Rattle.journal_data.proofs.Submitting.{HasFed}

-- ---- as a run begins

none_open : (given : Given) (station handle : ℕ) → link_at handle (facts_at given station []).links ≡ None
unfolding facts_of
none_open given station handle = none_at_first 0 handle (setup_at given station).links

none_at : {X : Type 0} (given : Given) (station handle : ℕ) (link : OpenLink) → link_at handle (facts_at given station []).links ≡ Some link → X
none_at given station handle link at = absurd (let h : None ≡ Some link = sym (none_open given station handle) ∙ at in absurd cc)

first_noted : (given : Given) (station : ℕ) → HasNoted given station []
unfolding notes_of
first_noted given station = refl

first_fed : (given : Given) (station : ℕ) → HasFed given station []
unfolding lines_of journal_of facts_of
first_fed given station = refl

first_well : (given : Given) (station : ℕ) → IsWell given station []
first_well given station = record {
  noted = first_noted given station;
  booked = first_booked given station;
  submitted = record {
    data_is = λ handle link at. none_at given station handle link at;
    empties_are = λ handle link at. none_at given station handle link at;
  };
  fed = first_fed given station;
  few = few_first given station;
}

nothing_arrives : (one other link : ℕ) → ArrivesInOrder link (lines_at one []) (lines_at other [])
unfolding lines_of journal_of
nothing_arrives one other link = record {
  reliable = record { in_order = refl; at_most_one_ahead = omega arith };
  delivered = record { received = refl; accepted = refl; credited = omega arith };
}

none_ahead : (Followed : ℕ → Type 0) (given : Given) (one other : ℕ) → AreAhead Followed (end_at given one []) (lines_at other [])
none_ahead Followed given one other handle end is now = let of = from_end given one [] handle end is in none_at given one handle of.link of.at

first_arrived : (given : Given) → AreArrived given []
first_arrived given = λ station is. record {
  out = λ link now. nothing_arrives station (other_of station) link;
  in_ = λ link now. nothing_arrives (other_of station) station link;
  ahead = none_ahead (IsFollowed given []) given station (other_of station);
  behind = none_ahead (IsFollowed given []) given (other_of station) station;
}

pub first_data : (given : Given) → IsDataAt given (IsBelongingSoFar given) NoTurn []
first_data given = let counted = counts_first given in record {
  counted = counted;
  mine = heard_none_mine given [] counted.holds.hearing.hears;
  are = record { well = λ station is. first_well given station };
}

first_so_far : (given : Given) → IsDataSoFar given NoTurn []
first_so_far given = record {
  is = first_data given;
  arrived = first_arrived given;
  always = always_first (AllArrive given) (well_arrive given [] (first_arrived given));
}

-- ---- in a whole run

module _ (whole : IsHeardWhole) (understood : IsUnderstood) (taken : AreTaken) (nth : AreNth) (apart : AreApart) (given : Given) (agree : AgreeUnmixed given)
    (are_two : IsOfTwo given) (few_links : HaveFewLinks given)
    (six : HaveAddresses given) (distinct : AreDistinct given.stations) (eight : (station : ℕ) → (setup_at given station).host_buffers ≡ 8) where
  run_arrives : AreAlways (AllArrive given) (history_of (run_of given))
  run_arrives =
      ends_with (run_of given) (IsWhole given (IsDataSoFar given)) (IsStopped given (IsDataSoFar given))
      (AreAlways (AllArrive given))
      (run_kept given (IsDataSoFar given)
      (so_far_kept whole given (known_of understood taken nth apart given are_two six) are_two few_links six distinct eight agree)
      (first_so_far given))
      (λ history is. is.is.always) (λ history stop is. is.kept.always)

  -- a front of the journal is the journal of a front of the events
  module _ (mixed : Mixed) (follows : Follows given mixed) where
    front_arrives : (front rest : List Entry) → journal_of (history_of (run_of given)) ≡ front ++ rest → (station : ℕ) → is_in station given.stations ≡ true → (link : ℕ)
        → mixed link front ≡ false
        → ArrivesInOrder link (lines_of 8 (side_of station) front) (lines_of 8 (side_of (other_of station)) front)
    front_arrives front [] is station in_it link unmixed =
        let history = history_of (run_of given) in
        let all = sym (append-nil history) in
        let front_is = is ∙ append-nil front in
        subst (λ journal. ArrivesInOrder link (lines_of 8 (side_of station) journal) (lines_of 8 (side_of (other_of station)) journal)) front_is
        (run_arrives history [] all station in_it link
        (followed_at given mixed follows are_two history [] all link (ap (mixed link) front_is ∙ unmixed)))
    front_arrives front (entry ∷ rest) is station in_it link unmixed =
        let at = is_of_event (history_of (run_of given)) front rest entry is in
        subst (λ journal. ArrivesInOrder link (lines_of 8 (side_of station) journal) (lines_of 8 (side_of (other_of station)) journal)) (sym at.front_is)
        (run_arrives at.before (at.event ∷ at.after) at.is_at station in_it link
        (followed_at given mixed follows are_two at.before (at.event ∷ at.after) at.is_at link (ap (mixed link) (sym at.front_is) ∙ unmixed)))

pub eight_of : (a b : List ℕ) (script : Script) (station : ℕ) → (setup_at (given_of a b script) station).host_buffers ≡ 8
eight_of a b script zero = refl
eight_of a b script (suc station) = refl

pub data_of_two : IsHeardWhole → IsUnderstood → AreTaken → AreNth → AreApart → (given : Given) → AgreeUnmixed given → (mixed : Mixed) → Follows given mixed
    → IsOfTwo given → HaveFewLinks given → HaveAddresses given
    → AreDistinct given.stations → ((station : ℕ) → (setup_at given station).host_buffers ≡ 8) → (front rest : List Entry) (side : Side) (link : ℕ)
    → journal_of (history_of (run_of given)) ≡ front ++ rest → mixed link front ≡ false
    → ArrivesInOrder link (lines_of 8 side front) (lines_of 8 (other_side side) front)
data_of_two whole understood taken nth apart given agree mixed follows two few six distinct eight front rest side link is unmixed =
    let at = front_arrives whole understood taken nth apart given agree two few six distinct eight mixed follows front rest is in
    by side (at 0 (is_of 0 refl) link unmixed) (at 1 (is_of 1 refl) link unmixed)
  where
    is_of : (station : ℕ) → is_in station (0 ∷ 1 ∷ []) ≡ true → is_in station given.stations ≡ true
    is_of station in_two = ap (is_in station) two ∙ in_two

    by : (side : Side) → ArrivesInOrder link (lines_of 8 A front) (lines_of 8 B front) → ArrivesInOrder link (lines_of 8 B front) (lines_of 8 A front)
        → ArrivesInOrder link (lines_of 8 side front) (lines_of 8 (other_side side) front)
    by A one other = one
    by B one other = other

pub data_arrives : IsHeardWhole → IsUnderstood → AreTaken → AreNth → AreApart → (a b : List ℕ) (script : Script) → AgreeUnmixed (given_of a b script)
    → (mixed : Mixed) → Follows (given_of a b script) mixed → (front rest : List Entry) (side : Side) (link : ℕ)
    → length script.a.public ≡ 6 → length script.b.public ≡ 6 → journal_of (history_of (run_of (given_of a b script))) ≡ front ++ rest → mixed link front ≡ false
    → ArrivesInOrder link (lines_of 8 side front) (lines_of 8 (other_side side) front)
data_arrives whole understood taken nth apart a b script agree mixed follows front rest side link six six_too =
    data_of_two whole understood taken nth apart (given_of a b script) agree mixed follows refl (pair_links a b script) (pair_addresses a b script six six_too)
    (pair_distinct a b script) (eight_of a b script) front rest side link
