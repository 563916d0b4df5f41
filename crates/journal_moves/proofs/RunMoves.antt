-- The packets of each turn of a run of two stations, from what is known of the lines before each of its events.
use Rattle.std.proofs.Common.{◌≡◌, ℕ, List, [], ◌∷◌, ◌++◌, refl, sym, ◌∙◌, append_assoc}
use Rattle.journal_wants.specs.journal_controls.journal_ends.Asked.{Words}
use Rattle.journal_wants.specs.run_model.Due.{Each}
use Rattle.journal_wants.specs.run_model.History.{Event, Hearing, Transmitted}
use Rattle.journal_wants.specs.run_model.Journal.{journal_of, side_of}
use Rattle.journal_wants.specs.run_model.LinkEnds.{HaveAddresses}
use Rattle.journal_wants.specs.run_model.Run.{Given, GoesOn, Stop, Stops, facts_at, history_of, run_of, setup_at}
use Rattle.journal_wants.specs.Station.{Setups, station_deciding}
use Rattle.journal_anchors.proofs.RunPlaces.{place_of_packet, place_of_stop}
use Rattle.journal_wants.proofs.HostSet.{IsSetAs}
use Rattle.journal_wants.proofs.journal_acks.Known.{known_of}
use Rattle.journal_wants.proofs.journal_acks.TwoStations.{IsOfTwo}
use Rattle.journal_wants.proofs.journal_acks.run_laws.DistinctAccess.{AreApart}
use Rattle.journal_wants.proofs.journal_data.FewLinks.{HaveFewLinks}
use Rattle.journal_wants.proofs.journal_leaving.link_model.Hearing.{IsHeardWhole}
use Rattle.journal_wants.proofs.journal_links.OfTwo.{are_distinct}
use Rattle.journal_wants.proofs.journal_packets.AccessOrder.{AreNth}
use Rattle.journal_wants.proofs.run_model.LinkEnds.{AreTaken, IsUnderstood}
use Rattle.journal_moves.specs.Moves.{IsOwed, NothingIsOwed}
use Rattle.journal_moves.specs.Owed.{MovesAreOwed}
use Rattle.journal_moves.proofs.OwedMoves.{IsSetBefore, awaited_are_heard, heard_are_listened_for, nothing_owed_at_end, owed_are_sent, owed_at_stop, packets_owed}
use Rattle.journal_moves.proofs.SaidDoings.{IsFirstKnown, IsKnown}

-- what is known before each event is known along the history
pub each_from : (fact : List Event → Event → Type 0) (history before events : List Event) → history ≡ before ++ events
    → ((front rest : List Event) (event : Event) → history ≡ front ++ event ∷ rest → fact front event)
    → Each fact before events
each_from fact history before [] is all = tt
each_from fact history before (event ∷ events) is all = (
  all before events event is,
  each_from fact history (before ++ event ∷ []) events (is ∙ sym (append_assoc before (event ∷ []) events)) all,
)

-- what the lines say of each side, at each event, where damage stops the run, and at its end
pub record AreSaid (words : Words) (setups : Setups) (given : Given) : Type 0 where
  pub known : (before rest : List Event) (event : Event) → history_of (run_of given) ≡ before ++ event ∷ rest
      → IsKnown words setups given before event
  pub set : (before rest : List Event) (station channel : ℕ) (octets : List ℕ) (hearings : List Hearing)
      → history_of (run_of given) ≡ before ++ Transmitted station channel octets hearings ∷ rest
      → IsSetAs (station_deciding words setups (side_of station) (journal_of before)) (facts_at given station before)
  pub first_at_stop : (history : List Event) (stop : Stop) → run_of given ≡ Stops history stop
      → IsFirstKnown words setups given history
  pub set_at_stop : (history : List Event) (stop : Stop) → run_of given ≡ Stops history stop
      → IsSetAs (station_deciding words setups (side_of stop.sender) (journal_of history))
      (facts_at given stop.sender history)
  pub first_at_end : (history : List Event) → run_of given ≡ GoesOn history → IsFirstKnown words setups given history

module _ (words : Words) (setups : Setups) (whole : IsHeardWhole) (understood : IsUnderstood) (taken : AreTaken)
    (nth : AreNth) (apart : AreApart) (given : Given) (are_two : IsOfTwo given)
    (few_links : HaveFewLinks given) (six : HaveAddresses given)
    (eight : (station : ℕ) → (setup_at given station).host_buffers ≡ 8) (said : AreSaid words setups given) where
  known : Each (IsKnown words setups given) [] (history_of (run_of given))
  known = each_from (IsKnown words setups given) (history_of (run_of given)) []
      (history_of (run_of given)) refl said.known

  pub moves_are_owed : MovesAreOwed words setups (journal_of (history_of (run_of given)))
  moves_are_owed =
      let distinct = are_distinct given are_two in
      let both : IsSetBefore words setups nth apart given are_two distinct six known =
      λ before rest station channel octets hearings at. (
        said.set before rest station channel octets hearings at,
        place_of_packet whole understood taken nth apart given are_two few_links six eight before rest station channel
            octets hearings at,
      ) in record {
        owed = packets_owed words setups nth apart given are_two distinct six known both;
        sent = owed_are_sent words setups nth apart given are_two distinct six known;
        listened = heard_are_listened_for words setups nth apart given are_two distinct six known both
            (known_of understood taken nth apart given are_two six);
        heard = awaited_are_heard words setups nth apart given are_two distinct six known both
            (known_of understood taken nth apart given are_two six);
      }

  pub nothing_is_owed : (history : List Event) → run_of given ≡ GoesOn history
      → NothingIsOwed words setups (journal_of history)
  nothing_is_owed history goes =
      nothing_owed_at_end words setups nth apart given are_two (are_distinct given are_two) six known history goes
      (said.first_at_end history goes)

  pub owed_where_stopped : (history : List Event) (stop : Stop) → run_of given ≡ Stops history stop
      → IsOwed words setups (journal_of history) (side_of stop.sender) stop.channel stop.sent
  owed_where_stopped history stop stops =
      owed_at_stop words setups nth apart given are_two (are_distinct given are_two) six known history stop stops
      (said.first_at_stop history stop stops)
      (said.set_at_stop history stop stops)
      (place_of_stop whole understood taken nth apart given are_two few_links six eight history stop stops)
