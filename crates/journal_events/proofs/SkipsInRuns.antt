-- In a run of two stations each end skips the events of which its lines say that it does.
use Rattle.std.proofs.Common.{◌≡◌, ℕ, Bool, true, not, Some, List, [], ◌∷◌, ◌++◌, map, refl, sym, ap, subst, ◌∙◌}
use Rattle.std.specs.Prelude.{◌&&◌}
use Rattle.std.specs.List.{Contains}
use Rattle.std.proofs.lemmas.Bool.{eq-eqb}
use Rattle.std.proofs.lemmas.List.Elements.{Contains-append_left, Contains-append_right, Contains-push}
use Rattle.std.proofs.lemmas.Option.{same_Some}
use Rattle.ble_base.specs.declared.notes.Note.{Note}
use Rattle.ble_base.specs.declared.notes.Note.TheVariants.{Enter as EnterNote}
use Rattle.instants.specs.Track.{next_anchor_of}
use Rattle.journal_sending.specs.journal_leaving.controller_model.Entering.{IsEntered}
use Rattle.journal_sending.specs.journal_leaving.controller_model.Facts.{Facts}
use Rattle.journal_sending.specs.journal_leaving.controller_model.Links.{facts_ending}
use Rattle.journal_sending.specs.journal_leaving.controller_model.Side.{notes_after}
use Rattle.journal_sending.specs.journal_leaving.controller_model.Since.{data_waiting}
use Rattle.journal_sending.specs.journal_leaving.controller_model.Step.{TurnBegins}
use Rattle.journal_sending.specs.journal_leaving.journal_data.open_links.OpenLinks.{OpenLink, facts_in, link_at}
use Rattle.journal_sending.specs.journal_leaving.journal_data.open_links.Turns.{enters_in, is_anchor, wants_entering}
use Rattle.journal_sending.specs.journal_leaving.journal_controls.LineSteps.{keyed_on}
use Rattle.journal_sending.specs.journal_leaving.journal_ends.Asked.{Words}
use Rattle.journal_sending.specs.journal_leaving.journal_ends.GivenWords.{GivesWords}
use Rattle.journal_sending.specs.journal_leaving.link_model.Entering.{facts_entered}
use Rattle.journal_sending.specs.journal_leaving.link_model.Facts.{keyed_of}
use Rattle.journal_sending.specs.journal_leaving.run_model.History.{Event, Called, Noted, packet_received, past_of}
use Rattle.journal_sending.specs.journal_leaving.run_model.Journal.{journal_of, side_of}
use Rattle.journal_sending.specs.journal_leaving.run_model.LinkEnds.{HaveAddresses}
use Rattle.journal_sending.specs.journal_leaving.run_model.Run.{Given, facts_at, history_of, run_of, setup_at}
use Rattle.journal_sending.proofs.journal_leaving.RunLeavings.{turn_told}
use Rattle.journal_sending.proofs.journal_leaving.controller_model.Entries.{enters_at_anchors}
use Rattle.journal_sending.proofs.journal_leaving.journal_acks.Counting.{plain}
use Rattle.journal_sending.proofs.journal_leaving.journal_acks.Exchanging.{exchange_at, number_at}
use Rattle.journal_sending.proofs.journal_leaving.journal_acks.KeptLines.{rests_deaf, rests_none}
use Rattle.journal_sending.proofs.journal_leaving.journal_acks.Known.{known_of}
use Rattle.journal_sending.proofs.journal_leaving.journal_acks.NewPdus.{between_turns}
use Rattle.journal_sending.proofs.journal_leaving.journal_acks.TwoStations.{IsOfTwo}
use Rattle.journal_sending.proofs.journal_leaving.journal_controls.RunControls.{keyed_before_call}
use Rattle.journal_sending.proofs.journal_leaving.journal_data.EachLine.{lines_at}
use Rattle.journal_sending.proofs.journal_leaving.journal_data.Ends.{sound}
use Rattle.journal_sending.proofs.journal_leaving.journal_data.FewLinks.{HaveFewLinks}
use Rattle.journal_sending.proofs.journal_leaving.journal_data.NumberedEnds.{front_of_two, numbered_end}
use Rattle.journal_sending.proofs.journal_leaving.journal_ends.run_laws.DistinctAccess.{AreApart}
use Rattle.journal_sending.proofs.journal_leaving.journal_links.OfTwo.{are_distinct, of_two_stations}
use Rattle.journal_sending.proofs.journal_leaving.journal_packets.AccessOrder.{AreNth}
use Rattle.journal_sending.proofs.journal_leaving.journal_packets.SoFar.{IsBelongingSoFar}
use Rattle.journal_sending.proofs.journal_leaving.link_model.Hearing.{IsHeardWhole}
use Rattle.journal_sending.proofs.journal_leaving.run_model.LinkEnds.{AreTaken, IsUnderstood}
use Rattle.journal_sending.proofs.journal_leaving.run_model.Numbers.{numbered_at}
use Rattle.journal_sending.proofs.journal_leaving.run_model.Stations.{is_in}
use Rattle.journal_sending.proofs.journal_leaving.run_model.Walk.{Place}
use Rattle.journal_sending.proofs.HeldOnLines.{lines_by}
use Rattle.journal_sending.proofs.SameData.{same_data}
use Rattle.journal_sending.proofs.Together.{IsKnownAt, known_first, known_kept}
use Rattle.journal_sending.proofs.journal_fixing.RunFixing.{fixing_before_begin}
use Rattle.journal_events.specs.Skips.{is_skipped}
use Rattle.journal_events.proofs.BegunLinks.{has_stayed}
use Rattle.journal_events.proofs.BegunPlaces.{HasBegunAt, begun_at}
use Rattle.journal_events.proofs.EnteredEnds.{IsKnownEnd, keyed, skips_event}
use Rattle.journal_events.proofs.RunEvents.{event_before_call}

module _ (words : Words) (heard_whole : IsHeardWhole) (understood : IsUnderstood) (taken : AreTaken) (nth : AreNth)
    (apart : AreApart) (given : Given) (are_two : IsOfTwo given) (few_links : HaveFewLinks given)
    (six : HaveAddresses given) (gives : GivesWords given words)
    (eight : (station : ℕ) → (setup_at given station).host_buffers ≡ 8) (station slot : ℕ) (on : Bool)
    (base rest : List Event) (in_it : is_in station given.stations ≡ true)
    (at : history_of (run_of given) ≡ base ++ Called station (TurnBegins slot on) ∷ rest) where
  abbrev facts : Facts
  facts = facts_at given station base

  -- what is known of all stations at each place
  abbrev P : Place → List Event → Type 0
  P = IsKnownAt given (IsBelongingSoFar given)

  begun_here : HasBegunAt given P station slot on base
  begun_here =
      let Q = IsBelongingSoFar given in
      let known = known_of understood taken nth apart given are_two six in
      begun_at given P (known_kept heard_whole given Q known are_two few_links six (are_distinct given are_two) eight)
      (known_first given) station slot on base rest at

  known_at : (handle : ℕ) (link : OpenLink) → link_at handle facts.links ≡ Some link
      → IsKnownEnd words given station slot on base handle link
  known_at handle link is_open =
      let step = TurnBegins slot on in
      let distinct = are_distinct given are_two in
      let begun = fixing_before_begin words heard_whole understood taken nth apart given are_two six gives base rest
      station slot on at in
      let has = begun_here.was in
      let counted = has.data_is.counted in
      let rests = between_turns given (IsBelongingSoFar given) distinct begun_here.done begun_here.left station base
      begun_here.stations_are counted in
      let received = packet_received station base in
      let number = numbered_at understood taken given base rest (Called station step) distinct six at refl station
      handle link is_open in
      let well = has.data_is.are.well station in_it in
      let booked = (sound given station handle base link (few_links.links station) (eight station) well
      is_open).booked in record {
        lined = begun.lined;
        lined_after = begun.lined_after;
        turn = turn_told words heard_whole understood taken nth apart given are_two six gives base rest station slot
            on at;
        numbered = numbered_end base (number_at station handle base) station link.setup
            (front_of_two understood taken given are_two six base (Called station step ∷ rest) at)
            (of_two_stations given are_two station in_it) number;
        keyed = keyed_before_call words heard_whole understood taken nth apart given are_two six gives base rest
            station step at in_it handle link is_open;
        event = event_before_call words heard_whole understood taken nth apart given are_two six gives base rest
            station step at in_it handle link is_open;
        counted = plain true received handle facts.turn link
            (exchange_at (number_at station handle base) base (side_of station))
            (rests_none handle facts.turn.doing rests.phase) (rests_deaf handle facts.turn.doing received rests.phase)
            (counted.counted station handle link in_it is_open);
        sent = has.lined.lines station handle link in_it is_open;
        data_is = lines_by (number_at station handle base) (lines_at station base) (facts_in link) (facts_in link)
            (data_waiting handle facts.received) booked (same_data (facts_in link));
      }

  -- the end of a note of an event enters one
  enters_now : (earlier later : List Note) (handle event channel : ℕ) (link : OpenLink)
      → notes_after (setup_at given station) facts (TurnBegins slot on)
      ≡ earlier ++ EnterNote handle (record { 0 = event }) channel ∷ later
      → link_at handle facts.links ≡ Some link → enters_in slot link ≡ true
  enters_now earlier later handle event channel link are is_open =
      let setup = setup_at given station in
      let note = EnterNote handle (record { 0 = event }) channel in
      let entered : IsEntered slot facts.links handle event channel =
      (enters_at_anchors setup (past_of station base) slot on handle event channel).0
      (subst (λ notes. Contains notes note) (sym are)
      (Contains-append_right earlier (note ∷ later) note
      (Contains-append_left (note ∷ []) later note (Contains-push [] note)))) in
      ap (enters_in slot) (same_Some link entered.link (sym is_open ∙ entered.is_open))
      ∙ (λ i. entered.is_on i && is_anchor slot entered.link)
      ∙ eq-eqb (next_anchor_of (facts_in entered.link).control.track) slot entered.at_anchor

  -- it skips the event where it does not want the radio for it
  pub skips_in_run : (earlier later : List Note) (handle event channel : ℕ) (link : OpenLink)
      → notes_after (setup_at given station) facts (TurnBegins slot on)
      ≡ earlier ++ EnterNote handle (record { 0 = event }) channel ∷ later
      → link_at handle (facts_ending slot facts).links ≡ Some link
      → is_skipped words (side_of station) (number_at station handle base)
      (journal_of (base ++ Called station (TurnBegins slot on)
      ∷ map (Noted station) (earlier ++ EnterNote handle (record { 0 = event }) channel ∷ [])))
      ≡ not (wants_entering slot link)
  skips_in_run earlier later handle event channel link are stays =
      let is_open = (has_stayed facts slot handle link stays).was in
      skips_event words given station slot on base handle link gives.kept in_it (known_at handle link is_open) earlier
      later event channel are stays (enters_now earlier later handle event channel link are is_open)

  -- the end is then as it is in that event
  pub keyed_in_run : (earlier later : List Note) (handle event channel : ℕ) (link : OpenLink)
      → notes_after (setup_at given station) facts (TurnBegins slot on)
      ≡ earlier ++ EnterNote handle (record { 0 = event }) channel ∷ later
      → link_at handle (facts_ending slot facts).links ≡ Some link
      → keyed_on words (side_of station) (number_at station handle base)
      (journal_of (base ++ Called station (TurnBegins slot on)
      ∷ map (Noted station) (earlier ++ EnterNote handle (record { 0 = event }) channel ∷ [])))
      ≡ Some (keyed_of (facts_entered link.setup slot (facts_in link)))
  keyed_in_run earlier later handle event channel link are stays =
      let is_open = (has_stayed facts slot handle link stays).was in
      keyed words given station slot on base handle link gives.kept in_it (known_at handle link is_open) earlier later
      event channel are stays (enters_now earlier later handle event channel link are is_open)
