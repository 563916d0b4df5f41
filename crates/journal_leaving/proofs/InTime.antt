-- In a run of two stations each open end is due as its lines tell until its station begins the turn, and then it is not.
use Rattle.std.proofs.Common.{◌≡◌, ℕ, suc, ◌+◌, ◌-◌, ◌≤◌, ◌==◌, not, Bool, true, false, Option, Some, None, List, [], ◌∷◌, ◌++◌, replicate, refl, sym, ap, subst, ◌∙◌, append_assoc, arith}
use Rattle.std.specs.Prelude.{⊤, map, take, if◌then◌else◌}
use Rattle.std.proofs.lemmas.Bool.{eqb-true}
use Rattle.ble_base.specs.declared.roles.Side.{Side}
use Rattle.journal_controls.specs.controller_model.Facts.{Facts}
use Rattle.journal_controls.specs.controller_model.Heard.{has_room}
use Rattle.journal_controls.specs.controller_model.Side.{facts_after, facts_of, notes_after}
use Rattle.journal_controls.specs.controller_model.Step.{Step as Call, HostOctet, TurnBegins, TurnEnds}
use Rattle.journal_controls.specs.journal_acks.link_calls.Phases.{HasPassed, IsNew, Stays, Takes}
use Rattle.journal_controls.specs.journal_ends.Asked.{Words}
use Rattle.journal_controls.specs.journal_ends.GivenWords.{GivesWords}
use Rattle.journal_controls.specs.journal_links.Begun.{link_numbered, links_begun}
use Rattle.journal_controls.specs.link_model.Facts.{params_of}
use Rattle.journal_controls.specs.open_links.OpenLinks.{OpenLink, facts_in, link_at}
use Rattle.journal_controls.specs.open_links.Turns.{due_in}
use Rattle.journal_controls.specs.run_model.Due.{Each}
use Rattle.journal_controls.specs.run_model.Feeding.{AreDistinct}
use Rattle.journal_controls.specs.run_model.History.{Event, TurnBegan, HostFed, Called, Noted, Transmitted, packet_received, past_of, steps_in, turns_begun}
use Rattle.journal_controls.specs.run_model.Journal.{entries_of, journal_from, journal_of, side_of}
use Rattle.journal_controls.specs.run_model.LinkEnds.{HaveAddresses}
use Rattle.journal_controls.specs.run_model.Links.{links_of}
use Rattle.journal_controls.specs.run_model.Run.{Given, GoesOn, after_call, after_feed, after_octets, facts_at, hearings_of, history_of, octets_left, run_of, setup_at, step_of}
use Rattle.journal_controls.proofs.EventMoves.{turn_still as keyed_still}
use Rattle.journal_controls.proofs.KeptControls.{turn_is}
use Rattle.journal_controls.proofs.RunControls.{keyed_before_turn}
use Rattle.journal_controls.proofs.journal_acks.Counting.{facts_event}
use Rattle.journal_controls.proofs.journal_acks.Exchanging.{number_at, number_called, number_other, number_quiet, number_sent}
use Rattle.journal_controls.proofs.journal_acks.HeardLines.{turn_heard}
use Rattle.journal_controls.proofs.journal_acks.KeptCounts.{own_at}
use Rattle.journal_controls.proofs.journal_acks.PassedLinks.{passed_or_new}
use Rattle.journal_controls.proofs.journal_acks.Standing.{PhasedBy, phased_at}
use Rattle.journal_controls.proofs.journal_acks.TwoStations.{IsOfTwo}
use Rattle.journal_controls.proofs.journal_acks.link_calls.CallNotes.{OpensNone, begin_noted, end_noted, octet_noted, opening_none}
use Rattle.journal_controls.proofs.journal_acks.link_calls.LinkCalls.{begins_under}
use Rattle.journal_controls.proofs.journal_acks.link_calls.UnderHandles.{end_under, host_under}
use Rattle.journal_controls.proofs.journal_ends.EndsKnown.{begun_at}
use Rattle.journal_controls.proofs.journal_ends.KeptSeen.{fold_then, octet_next}
use Rattle.journal_controls.proofs.journal_ends.StandingLinks.{older_at}
use Rattle.journal_controls.proofs.journal_ends.RunSeen.{seen_before_turn}
use Rattle.journal_controls.proofs.journal_ends.run_laws.DistinctAccess.{AreApart}
use Rattle.journal_controls.proofs.journal_ends.run_laws.Hearings.{other_facts}
use Rattle.journal_controls.proofs.journal_ends.run_laws.OpenSteps.{none_open, open_has}
use Rattle.journal_controls.proofs.journal_ends.run_laws.TurnPlaces.{Between, Within, at_stage, event_past, standing, turned}
use Rattle.journal_controls.proofs.journal_links.LinksBegun.{number_stays}
use Rattle.journal_controls.proofs.journal_links.Ranges.{values_in_range}
use Rattle.journal_controls.proofs.journal_links.OfTwo.{are_distinct}
use Rattle.journal_controls.proofs.journal_packets.AccessOrder.{AreNth}
use Rattle.journal_controls.proofs.link_model.Hearing.{IsHeardWhole}
use Rattle.journal_controls.proofs.run_model.Calls.{past_own, same_station, turns_called, turns_more}
use Rattle.journal_controls.proofs.run_model.Fronts.{front_at}
use Rattle.journal_controls.proofs.run_model.LinkEnds.{AreTaken, IsUnderstood}
use Rattle.journal_controls.proofs.run_model.Parts.{journal_event, journal_more}
use Rattle.journal_controls.proofs.run_model.Places.{each_at, each_called, each_event}
use Rattle.journal_controls.proofs.run_model.Stations.{among, in_more_other, in_more_same, is_in, not_before}
use Rattle.journal_controls.proofs.run_model.Walk.{AfterPhases, AtBegins, AtFeeds, AtListening, Ends, IsKept, IsStopped, IsWhole, NoTurn, Place, ends_whole, ends_with, feed_turns, run_kept}
use Rattle.journal_data.proofs.run_pairs.OneSide.{IsSetUp, StationAt, station_first, station_kept}
use Rattle.journal_leaving.specs.Reasons.{due_begun}
use Rattle.journal_leaving.proofs.DueBegun.{AreIn, IsNotDue, air_due, air_in, due_begun_at, none_in, none_not_due, not_due_grown, not_due_now, not_due_turn, still_due, still_links, turn_due, turn_in}
use Rattle.journal_leaving.proofs.EventMoves.{turn_still}
use Rattle.journal_leaving.proofs.HostDue.{octet_due as link_due}
use Rattle.journal_leaving.proofs.KeptLeavings.{AreLeftAt, all_left, leavings_first, leavings_kept}
use Rattle.journal_leaving.proofs.OtherLines.{call_reads, feed_reads, host_reads}
use Rattle.journal_leaving.proofs.Timeouts.{end_timed}
use Rattle.journal_leaving.proofs.RunLeavings.{TellsDue, due_by_lines, heard_by_lines}

-- ---- what is kept

-- where the station of an end is still to begin the turn, what is due to the end in this slot; then nothing
abbrev due_if : Bool → ℕ → OpenLink → Option ℕ
due_if true slot link = due_in slot link
due_if false slot link = None

abbrev AreDueSo : Words → Given → List Event → (ℕ → Bool) → Type 0
AreDueSo words given history awaits =
    (station handle : ℕ) (link : OpenLink) → is_in station given.stations ≡ true → link_at handle (facts_at given station history).links ≡ Some link
    → due_begun_at words (number_at station handle history) (side_of station) history ≡ due_if (awaits station) (turns_begun history - 1) link

abbrev awaits : Place → ℕ → Bool
awaits (AtFeeds done left) station = true
awaits (AtBegins done left) station = not (is_in station done)
awaits place station = false

-- no open end was to end as the turn began
abbrev pub NoneOverdue : Words → Given → List Event → Type 0
NoneOverdue words given history =
    (station : ℕ) → is_in station given.stations ≡ true → (handle : ℕ) (link : OpenLink) → link_at handle (facts_at given station history).links ≡ Some link
    → due_begun words (side_of station) (number_at station handle history) (journal_of history) ≡ None

abbrev InTimeBefore : Words → Given → List Event → Event → Type 0
InTimeBefore words given before (TurnBegan slot radios) = NoneOverdue words given before
InTimeBefore words given before (HostFed station octets) = ⊤
InTimeBefore words given before (Called station step) = ⊤
InTimeBefore words given before (Noted station note) = ⊤
InTimeBefore words given before (Transmitted station channel octets hearings) = ⊤

record AreInTime (words : Words) (given : Given) (place : Place) (history : List Event) : Type 0 where
  left : AreLeftAt words given place history
  begun : AreIn (turns_begun history) (links_begun (journal_of history))
  fresh : (number : ℕ) → IsNotDue words number history
  due : AreDueSo words given history (awaits place)
  each : Each (InTimeBefore words given) [] history

-- ---- events and calls

module _ (words : Words) (given : Given) where
  due_same : (history : List Event) (one other : ℕ → Bool) → ((station : ℕ) → is_in station given.stations ≡ true → other station ≡ one station)
      → AreDueSo words given history one → AreDueSo words given history other
  due_same history one other same are = λ station handle link in_it at.
      are station handle link in_it at ∙ ap (λ b. due_if b (turns_begun history - 1) link) (sym (same station in_it))

  -- an event of no call, which begins no turn
  due_event : (history : List Event) (event : Event) (flags : ℕ → Bool) → ((station : ℕ) → steps_in station event ≡ [])
      → ((number station : ℕ) → due_begun_at words number (side_of station) (history ++ event ∷ []) ≡ due_begun_at words number (side_of station) history)
      → ((station handle : ℕ) → number_at station handle (history ++ event ∷ []) ≡ number_at station handle history)
      → turns_begun (history ++ event ∷ []) ≡ turns_begun history → AreDueSo words given history flags → AreDueSo words given (history ++ event ∷ []) flags
  due_event history event flags none due number turns are = λ station handle link in_it at.
      ap (λ n. due_begun_at words n (side_of station) (history ++ event ∷ [])) (number station handle) ∙ due (number_at station handle history) station
      ∙ are station handle link in_it (ap (λ (f : Facts). link_at handle f.links) (sym (facts_event given station history event (none station))) ∙ at)
      ∙ ap (λ n. due_if (flags station) (n - 1) link) (sym turns)

  module _ (station : ℕ) (step : Call) (history : List Event) where
    abbrev after : List Event
    after = after_call given station step history

    turns_same : turns_begun after ≡ turns_begun history
    turns_same = turns_called station step (notes_after (setup_at given station) (facts_at given station history) step) history

    -- an end with the same number
    due_called : (other handle : ℕ) → number_at other handle after ≡ number_at other handle history
        → due_begun_at words (number_at other handle after) (side_of other) after ≡ due_begun_at words (number_at other handle history) (side_of other) history
    due_called other handle number =
        ap (λ n. due_begun_at words n (side_of other) after) number
        ∙ call_reads (Option ℕ) (due_begun words (side_of other) (number_at other handle history)) (still_due words (side_of other) (number_at other handle history)) given station step history

    due_call : (flags later : ℕ → Bool)
        → ((handle : ℕ) (link : OpenLink) → link_at handle (facts_at given station after).links ≡ Some link
        → due_begun_at words (number_at station handle after) (side_of station) after ≡ due_if (later station) (turns_begun after - 1) link)
        → ((other : ℕ) → (other == station) ≡ false → later other ≡ flags other) → AreDueSo words given history flags → AreDueSo words given after later
    due_call flags later own same are = λ other handle link in_it at. by other handle link in_it at (other == station) refl
      where
        by : (other handle : ℕ) (link : OpenLink) → is_in other given.stations ≡ true
            → link_at handle (facts_at given other (after_call given station step history)).links ≡ Some link → (one : Bool) → (other == station) ≡ one
            → due_begun_at words (number_at other handle (after_call given station step history)) (side_of other) (after_call given station step history)
            ≡ due_if (later other) (turns_begun (after_call given station step history) - 1) link
        by other handle link in_it at true is =
            let equal = eqb-true other station is in
            let next = after_call given station step history in
            subst (λ n. due_begun_at words (number_at n handle next) (side_of n) next ≡ due_if (later n) (turns_begun next - 1) link) (sym equal)
            (own handle link (subst (λ n. link_at handle (facts_at given n next).links ≡ Some link) equal at))
        by other handle link in_it at false differs =
            due_called other handle (number_other given station step history other handle differs)
            ∙ are other handle link in_it (ap (λ (f : Facts). link_at handle f.links) (sym (other_facts given station step history other differs)) ∙ at)
            ∙ (λ i. due_if (sym (same other differs) i) (sym turns_same i - 1) link)

    fresh_called : ((number : ℕ) → IsNotDue words number history) → (number : ℕ) → IsNotDue words number after
    fresh_called are number =
        let notes = notes_after (setup_at given station) (facts_at given station history) step in
        not_due_grown words number history after (journal_from (links_of history) (Called station step ∷ map (Noted station) notes))
        (journal_more history (Called station step ∷ map (Noted station) notes)) (let same = turns_same in omega (arith, same))
        (λ side. call_reads (Option ℕ) (due_begun words side number) (still_due words side number) given station step history) (are number)

    begun_called : AreIn (turns_begun history) (links_begun (journal_of history)) → AreIn (turns_begun after) (links_begun (journal_of after))
    begun_called are =
        subst (λ n. AreIn n (links_begun (journal_of after))) (sym turns_same) (subst (AreIn (turns_begun history)) (sym (call_reads _ links_begun still_links given station step history)) are)

    each_call : Each (InTimeBefore words given) [] history → ((other : ℕ) (call : Call) → InTimeBefore words given history (Called other call)) → Each (InTimeBefore words given) [] after
    each_call each now =
        each_called (InTimeBefore words given) station step (notes_after (setup_at given station) (facts_at given station history) step) history each (now station step) (λ before note. tt)

  -- ---- what a host sends

  module _ (taken : AreTaken) (distinct : AreDistinct given.stations) where
    -- before an octet the timeout of each open end of its station is not 0
    rests_at : (history rest : List Event) (station handle : ℕ) (link : OpenLink) → is_in station given.stations ≡ true → history_of (run_of given) ≡ history ++ rest
        → standing (past_of station history) ≡ Some (at_stage Between (turns_begun history - 1)) → link_at handle (facts_at given station history).links ≡ Some link → 1 ≤ (params_of (facts_in link)).timeout
    rests_at history rest station handle link in_it at stands is_open =
        let setup = setup_at given station in
        let past = past_of station history in
        let begun = turns_begun history - 1 in
        let is = turned setup (StationAt setup) (station_kept taken setup) past (at_stage Between begun) (station_first setup) stands in
        let set_up = open_has IsSetUp 0 handle (facts_of setup past).links link is.each is_open in
        let from = set_up.in_range.parameters.timeout_from in
        end_timed link.setup link.past (λ central. values_in_range taken given history rest station handle link distinct in_it at is_open) (omega (arith, from))

    octet_due : (station octet : ℕ) (history rest : List Event) (flags : ℕ → Bool) → is_in station given.stations ≡ true → flags station ≡ true
        → history_of (run_of given) ≡ history ++ rest → standing (past_of station history) ≡ Some (at_stage Between (turns_begun history - 1)) → AreDueSo words given history flags
        → AreDueSo words given (after_call given station (HostOctet octet) history) flags
    octet_due station octet history rest flags in_it on at stands are =
        let step = HostOctet octet in
        let setup = setup_at given station in
        let facts = facts_at given station history in
        let begun = (older_at setup (past_of station history) (turns_begun history - 1) stands).in_turn.begun_is in
        due_call station step history flags flags (λ handle link held.
        due_called station step history station handle
        (number_called given station step history handle (octet_noted (OpensNone handle) (opening_none handle).starts.feeds setup facts octet))
        ∙ link_due setup (past_of station history) octet handle (turns_begun history - 1) link
        (host_under setup facts octet handle link (own_at given station step history handle link held)) begun
        (λ base was. rests_at history rest station handle base in_it at stands was)
        (due_begun_at words (number_at station handle history) (side_of station) history)
        (λ base was. are station handle base in_it was ∙ ap (λ b. due_if b (turns_begun history - 1) base) on)
        ∙ (λ i. due_if (sym on i) (sym (turns_same station step history) i - 1) link))
        (λ other differs. refl) are

    -- a station stands before its turn after an octet too
    octet_stands : (station octet : ℕ) (history : List Event) → standing (past_of station history) ≡ Some (at_stage Between (turns_begun history - 1))
        → standing (past_of station (after_call given station (HostOctet octet) history))
        ≡ Some (at_stage Between (turns_begun (after_call given station (HostOctet octet) history) - 1))
    octet_stands station octet history stands =
        let step = HostOctet octet in
        let notes = notes_after (setup_at given station) (facts_at given station history) step in
        ap standing (past_own station step notes history)
        ∙ fold_then _ (Some (at_stage Between 0)) (Some (at_stage Between (turns_begun history - 1))) (Some (at_stage Between (turns_begun history - 1))) (past_of station history) step
        stands refl
        ∙ ap (λ n. Some (at_stage Between (n - 1))) (sym (turns_same station step history))

    octets_due : (station : ℕ) (octets : List ℕ) (history rest : List Event) (flags : ℕ → Bool) → is_in station given.stations ≡ true → flags station ≡ true
        → history_of (run_of given) ≡ after_octets given station octets history ++ rest
        → standing (past_of station history) ≡ Some (at_stage Between (turns_begun history - 1)) → AreDueSo words given history flags
        → AreDueSo words given (after_octets given station octets history) flags
    octets_due station [] history rest flags in_it on at stands are = are
    octets_due station (octet ∷ octets) history rest flags in_it on at stands are =
        let now = octet_next given station octet octets history rest at in
        octets_due station octets (after_call given station (HostOctet octet) history) rest flags in_it on at (octet_stands station octet history stands)
        (octet_due station octet history (Called station (HostOctet octet) ∷ now.rest) flags in_it on now.at stands are)

    feed_due : (station : ℕ) (octets : List ℕ) (history rest : List Event) (flags : ℕ → Bool) → is_in station given.stations ≡ true → flags station ≡ true
        → history_of (run_of given) ≡ after_feed given station octets history ++ rest
        → standing (past_of station history) ≡ Some (at_stage Between (turns_begun history - 1)) → AreDueSo words given history flags
        → AreDueSo words given (after_feed given station octets history) flags
    feed_due station [] history rest flags in_it on at stands are = are
    feed_due station (octet ∷ octets) history rest flags in_it on at stands are =
        let event = HostFed station (octet ∷ octets) in
        octets_due station (octet ∷ octets) (history ++ event ∷ []) rest flags in_it on at
        (ap standing (event_past station history event refl) ∙ stands
        ∙ ap (λ n. Some (at_stage Between (n - 1))) (let more = turns_more history event in omega (arith, more)))
        (due_event history event flags (λ one. refl)
        (λ number one. host_reads (Option ℕ) (due_begun words (side_of one) number) (still_due words (side_of one) number) history station (octet ∷ octets))
        (λ one handle. number_quiet one handle history event (λ links. refl)) (let more = turns_more history event in omega (arith, more)) are)

  octets_each : (station : ℕ) (octets : List ℕ) (history : List Event) → Each (InTimeBefore words given) [] history → Each (InTimeBefore words given) [] (after_octets given station octets history)
  octets_each station [] history each = each
  octets_each station (octet ∷ octets) history each =
      octets_each station octets (after_call given station (HostOctet octet) history) (each_call station (HostOctet octet) history each (λ other call. tt))

  feed_each : (station : ℕ) (octets : List ℕ) (history : List Event) → Each (InTimeBefore words given) [] history → Each (InTimeBefore words given) [] (after_feed given station octets history)
  feed_each station [] history each = each
  feed_each station (octet ∷ octets) history each =
      octets_each station (octet ∷ octets) (history ++ HostFed station (octet ∷ octets) ∷ []) (each_event (InTimeBefore words given) history (HostFed station (octet ∷ octets)) each tt)

  octets_fresh : (station : ℕ) (octets : List ℕ) (history : List Event) → ((number : ℕ) → IsNotDue words number history) → (number : ℕ) → IsNotDue words number (after_octets given station octets history)
  octets_fresh station [] history are = are
  octets_fresh station (octet ∷ octets) history are = octets_fresh station octets (after_call given station (HostOctet octet) history) (fresh_called station (HostOctet octet) history are)

  fresh_event : (history : List Event) (event : Event)
      → ((number : ℕ) (side : Side) → due_begun_at words number side (history ++ event ∷ []) ≡ due_begun_at words number side history)
      → ((number : ℕ) → IsNotDue words number history) → (number : ℕ) → IsNotDue words number (history ++ event ∷ [])
  fresh_event history event due are number =
      not_due_grown words number history (history ++ event ∷ []) (entries_of (links_of history) event) (journal_event history event)
      (let more = turns_more history event in omega (arith, more)) (due number) (are number)

  feed_fresh : (station : ℕ) (octets : List ℕ) (history : List Event) → ((number : ℕ) → IsNotDue words number history) → (number : ℕ) → IsNotDue words number (after_feed given station octets history)
  feed_fresh station [] history are = are
  feed_fresh station (octet ∷ octets) history are =
      octets_fresh station (octet ∷ octets) (history ++ HostFed station (octet ∷ octets) ∷ [])
      (fresh_event history (HostFed station (octet ∷ octets))
      (λ number side. host_reads (Option ℕ) (due_begun words side number) (still_due words side number) history station (octet ∷ octets)) are)

-- ---- a run

module _ (words : Words) (heard_whole : IsHeardWhole) (understood : IsUnderstood) (taken : AreTaken) (nth : AreNth) (apart : AreApart) (given : Given) (are_two : IsOfTwo given)
    (six : HaveAddresses given) (gives : GivesWords given words) where
  -- the line of a turn: what is due to an end then is due by the lines
  turn_sets : (history rest : List Event) (slot : ℕ) (radios : List Bool) → turns_begun history ≡ slot
      → history_of (run_of given) ≡ (history ++ TurnBegan slot radios ∷ []) ++ rest → AreLeftAt words given NoTurn history
      → AreDueSo words given (history ++ TurnBegan slot radios ∷ []) (λ one. true)
  turn_sets history rest slot radios begun_is at left = λ station handle link in_it is_open.
      let event = TurnBegan slot radios in
      let then_on = history ++ event ∷ [] in
      let side = side_of station in
      let number = number_at station handle history in
      let was = ap (λ (f : Facts). link_at handle f.links) (sym (facts_event given station history event refl)) ∙ is_open in
      let at_turn : history_of (run_of given) ≡ history ++ event ∷ rest = at ∙ append_assoc history (event ∷ []) rest in
      let begun = begun_at given are_two NoTurn history left.controls.seen.known station handle link was in
      let told : TellsDue words number side station then_on link = record {
        begun = record {
          link = begun.link;
          is_link = ap (link_numbered number) (journal_event history event) ∙ number_stays number (journal_of history) (entries_of (links_of history) event) begun.link begun.is_link;
          fields = begun.fields;
          slot = begun.slot;
        };
        keyed = keyed_still words number side history slot radios
            ∙ keyed_before_turn words heard_whole understood taken nth apart given are_two six gives history rest slot radios at_turn station in_it handle link was;
        left = turn_still words number side history slot radios ∙ all_left words given history left station in_it handle link was;
        heard = turn_heard number side history slot radios
            ∙ heard_by_lines words number side history link (seen_before_turn words understood taken nth apart given are_two six gives history rest slot radios at_turn station in_it handle link was);
      } in
      let turns : turns_begun then_on ≡ slot + 1 = turns_more history event ∙ ap (λ n. n + 1) begun_is in
      let slot_is : slot ≡ turns_begun then_on - 1 = omega (arith, turns) in
      ap (λ n. due_begun_at words n side then_on) (number_quiet station handle history event (λ links. refl))
      ∙ turn_due words number side history slot radios ∙ due_by_lines words number side station then_on link (turns_begun then_on - 1) told (turn_is then_on slot turns ∙ slot_is)

  -- ---- a phase passes

  module _ (phases : ℕ) (done left : List ℕ) (station : ℕ) (history : List Event) (are : given.stations ≡ done ++ station ∷ left)
      (has : AreInTime words given (AtListening phases done (station ∷ left)) history)
      (next : AreLeftAt words given (AtListening phases (done ++ station ∷ []) left) (after_call given station (step_of (packet_received station history)) history)) where
    abbrev received : Option (List ℕ)
    received = packet_received station history

    abbrev passed_on : List Event
    passed_on = after_call given station (step_of received) history

    abbrev facts : Facts
    facts = facts_at given station history

    abbrev IsNone : ℕ → Type 0
    IsNone handle = due_begun_at words (number_at station handle passed_on) (side_of station) passed_on ≡ None

    in_it : is_in station given.stations ≡ true
    in_it = among given.stations done left station are

    phased : PhasedBy given history station (at_stage (Within phases) (turns_begun history))
    phased =
        subst (λ b. PhasedBy given history station (if b then at_stage (Within (suc phases)) (turns_begun history) else at_stage (Within phases) (turns_begun history)))
        (not_before given.stations done left station (are_distinct given are_two) are)
        (phased_at given (AtListening phases done (station ∷ left)) history has.left.controls.seen.holds.hearing.stand station in_it)

    -- a link of this turn
    new_none : (handle : ℕ) (link : OpenLink) → link_at handle (facts_at given station passed_on).links ≡ Some link → link.setup.opened ≡ facts.turn.slot → IsNone handle
    new_none handle link at opened =
        let number = number_at station handle passed_on in
        not_due_now words passed_on number station link.setup (side_of station) (fresh_called words given station (step_of received) history has.fresh number)
        (begun_at given are_two (AtListening phases (done ++ station ∷ []) left) passed_on next.controls.seen.known station handle link at)
        (ap (λ n. n + 1) opened ∙ phased.uses.in_turn.slot_is ∙ sym (turns_same words given station (step_of received) history))

    passed_none : (handle : ℕ) (link : OpenLink) → link_at handle (facts_at given station passed_on).links ≡ Some link → number_at station handle passed_on ≡ number_at station handle history
        → HasPassed (setup_at given station) facts (has_room (setup_at given station) facts) received handle (facts_after (setup_at given station) facts (step_of received)).turn.doing link → IsNone handle
    passed_none handle link at number (IsNew end made opened off) = new_none handle link at (ap (λ (l : OpenLink). l.setup.opened) made ∙ opened)
    passed_none handle link at number (Stays was none nothing listened) =
        due_called words given station (step_of received) history station handle number ∙ has.due station handle link in_it was
    passed_none handle link at number (Takes base octets was some on same) =
        due_called words given station (step_of received) history station handle number ∙ has.due station handle base in_it was

    passes_none : (handle : ℕ) (link : OpenLink) → link_at handle (facts_at given station passed_on).links ≡ Some link → IsNone handle
    passes_none handle link at =
        passed_or_new given station history phased.uses.in_turn.listens (IsNone handle) handle link at (passed_none handle link at)
        (λ new. new_none handle link at new.opened)

  -- ---- each step

  none_now : (history : List Event) → AreInTime words given NoTurn history → NoneOverdue words given history
  none_now history has = λ station in_it handle link at. has.due station handle link in_it at

  times_kept : IsKept given (AreInTime words given)
  times_kept = let kept = leavings_kept words heard_whole understood taken nth apart given are_two six gives in record {
    on_turn = λ slot plan history begun at has.
        let radios = map plan.radio_of given.stations in
        let event = TurnBegan slot radios in
        let left = kept.on_turn slot plan history begun at has.left in
        let front = front_at given (AtFeeds [] given.stations) (history ++ event ∷ []) left.controls.seen.known.front in record {
          left = left;
          begun = turn_in history slot radios has.begun;
          fresh = λ number. not_due_turn words number history slot radios has.begun;
          due = turn_sets history front.rest slot radios begun front.at has.left;
          each = each_event (InTimeBefore words given) history event has.each (none_now history has);
        };
    on_feed = λ plan done left station history are some now has.
        let octets = take (plan.feed_of station) (octets_left given station history) in
        let after_on = after_feed given station octets history in
        let turns : turns_begun after_on ≡ turns_begun history = feed_turns given (turns_begun history) station octets history refl in
        let in_it = among given.stations done left station are in
        let next = kept.on_feed plan done left station history are some now has.left in
        let front = front_at given (AtFeeds (done ++ station ∷ []) left) after_on next.controls.seen.known.front in record {
          left = next;
          begun = subst (λ n. AreIn n (links_begun (journal_of after_on))) (sym turns)
              (subst (AreIn (turns_begun history)) (sym (feed_reads _ links_begun still_links given station octets history)) has.begun);
          fresh = feed_fresh words given station octets history has.fresh;
          due = feed_due words given taken (are_distinct given are_two) station octets history front.rest (λ one. true) in_it refl front.at
              (has.left.controls.seen.holds.hearing.stand station in_it) has.due;
          each = feed_each words given station octets history has.each;
        };
    on_fed = λ history has. record { left = kept.on_fed history has.left; begun = has.begun; fresh = has.fresh; due = has.due; each = has.each };
    on_begin = λ slot plan done left station history are due has.
        let on = plan.radio_of station in
        let step = TurnBegins slot on in
        let setup = setup_at given station in
        let facts = facts_at given station history in
        let in_it = among given.stations done left station are in
        let turns = due.slot_is in
        let slot_is : turns_begun history - 1 ≡ slot = omega (arith, turns) in
        let then_on = after_call given station step history in record {
          left = kept.on_begin slot plan done left station history are due has.left;
          begun = begun_called words given station step history has.begun;
          fresh = fresh_called words given station step history has.fresh;
          due = due_call words given station step history (awaits (AtBegins done (station ∷ left))) (awaits (AtBegins (done ++ station ∷ []) left)) (λ handle link at.
              let begun = begins_under setup facts slot on handle link (own_at given station step history handle link at) in
              due_called words given station step history station handle (number_called given station step history handle (begin_noted (OpensNone handle) (opening_none handle) setup slot on facts))
              ∙ has.due station handle begun.link in_it begun.was
              ∙ ap (λ b. due_if (not b) (turns_begun history - 1) begun.link) (not_before given.stations done left station (are_distinct given are_two) are)
              ∙ ap (λ n. due_in n begun.link) slot_is ∙ begun.not_due
              ∙ ap (λ b. due_if (not b) (turns_begun then_on - 1) link) (sym (in_more_same station station done (same_station station))))
              (λ other differs. ap not (in_more_other other station done differs)) has.due;
          each = each_call words given station step history has.each (λ other call. tt);
        };
    on_begun = λ history has. record {
      left = kept.on_begun history has.left;
      begun = has.begun;
      fresh = has.fresh;
      due = due_same words given history (awaits (AtBegins given.stations [])) (awaits (AfterPhases 0)) (λ station in_it. sym (ap not in_it)) has.due;
      each = has.each;
    };
    on_phase = λ phases history few has. record { left = kept.on_phase phases history few has.left; begun = has.begun; fresh = has.fresh; due = has.due; each = has.each };
    on_silence = λ phases done left station history are none has. record {
      left = kept.on_silence phases done left station history are none has.left;
      begun = has.begun;
      fresh = has.fresh;
      due = has.due;
      each = has.each;
    };
    on_packet = λ phases plan done left station channel octets history are some due has.
        let hearings = hearings_of given plan.fates station channel octets history in
        let event = Transmitted station channel octets hearings in record {
          left = kept.on_packet phases plan done left station channel octets history are some due has.left;
          begun = air_in history station channel octets hearings some has.begun;
          fresh = fresh_event words given history event (λ number side. air_due words number side history station channel octets hearings) has.fresh;
          due = due_event words given history event (λ one. false) (λ one. refl) (λ number one. air_due words number (side_of one) history station channel octets hearings)
              (λ one handle. number_sent one handle history station channel octets hearings) (let more = turns_more history event in omega (arith, more)) has.due;
          each = each_event (InTimeBefore words given) history event has.each tt;
        };
    on_air = λ phases history has. record { left = kept.on_air phases history has.left; begun = has.begun; fresh = has.fresh; due = has.due; each = has.each };
    on_hearing = λ phases done left station history are some has.
        let step = step_of (packet_received station history) in
        let next = kept.on_hearing phases done left station history are some has.left in record {
          left = next;
          begun = begun_called words given station step history has.begun;
          fresh = fresh_called words given station step history has.fresh;
          due = due_call words given station step history (λ one. false) (λ one. false) (passes_none phases done left station history are has next) (λ other differs. refl) has.due;
          each = each_call words given station step history has.each (λ other call. tt);
        };
    on_heard = λ phases history has. record { left = kept.on_heard phases history has.left; begun = has.begun; fresh = has.fresh; due = has.due; each = has.each };
    on_phases = λ history has. record { left = kept.on_phases history has.left; begun = has.begun; fresh = has.fresh; due = has.due; each = has.each };
    on_end = λ done left station history are some has.
        let setup = setup_at given station in
        let facts = facts_at given station history in
        let in_it = among given.stations done left station are in record {
          left = kept.on_end done left station history are some has.left;
          begun = begun_called words given station TurnEnds history has.begun;
          fresh = fresh_called words given station TurnEnds history has.fresh;
          due = due_call words given station TurnEnds history (λ one. false) (λ one. false) (λ handle link at.
              let was = end_under setup facts handle link (own_at given station TurnEnds history handle link at) in
              due_called words given station TurnEnds history station handle
              (number_called given station TurnEnds history handle (end_noted (OpensNone handle) (opening_none handle).starts.feeds setup facts))
              ∙ has.due station handle was.link in_it was.was) (λ other differs. refl) has.due;
          each = each_call words given station TurnEnds history has.each (λ other call. tt);
        };
    on_ended = λ history has. record { left = kept.on_ended history has.left; begun = has.begun; fresh = has.fresh; due = has.due; each = has.each };
  }

  first : AreInTime words given NoTurn []
  unfolding facts_of
  first = record {
    left = leavings_first words given;
    begun = none_in;
    fresh = none_not_due words;
    due = λ station handle link in_it at.
        absurd (open_has (λ one. ⊥) 0 handle (replicate (setup_at given station).links None) link (none_open (λ one. ⊥) (setup_at given station).links) at);
    each = tt;
  }

  ends : Ends (run_of given) (IsWhole given (AreInTime words given)) (IsStopped given (AreInTime words given))
  ends = run_kept given (AreInTime words given) times_kept first

  pub none_overdue_before_turn : (before rest : List Event) (slot : ℕ) (radios : List Bool) → history_of (run_of given) ≡ before ++ TurnBegan slot radios ∷ rest → NoneOverdue words given before
  none_overdue_before_turn before rest slot radios at =
      each_at (InTimeBefore words given) (history_of (run_of given)) before rest (TurnBegan slot radios)
      (ends_with (run_of given) (IsWhole given (AreInTime words given)) (IsStopped given (AreInTime words given)) (Each (InTimeBefore words given) []) ends
      (λ history whole. whole.is.each) (λ history stop stopped. stopped.kept.each)) at

  pub none_overdue_at_end : (history : List Event) → run_of given ≡ GoesOn history → NoneOverdue words given history
  none_overdue_at_end history goes =
      none_now history (ends_whole (run_of given) (IsWhole given (AreInTime words given)) (IsStopped given (AreInTime words given)) history ends goes).is
