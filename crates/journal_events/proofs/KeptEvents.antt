-- Each step of a run of two stations keeps that the event of each open end is, by the journal, the one that the end holds.
use Rattle.std.proofs.Common.{◌≡◌, ℕ, suc, ◌-◌, ◌==◌, Bool, true, false, not, Option, Some, None, List, [], ◌∷◌, ◌++◌, replicate, refl, sym, ap, subst, ◌∙◌, append_assoc}
use Rattle.std.specs.Prelude.{◌&&◌, map, take, if◌then◌else◌}
use Rattle.std.proofs.lemmas.Bool.{eqb-true}
use Rattle.ble_base.specs.declared.roles.Side.{Side}
use Rattle.journal_sending.specs.journal_leaving.journal_controls.Withheld.{withheld_by}
use Rattle.journal_sending.specs.journal_leaving.controller_model.Facts.{Facts, Listens, Sends}
use Rattle.journal_sending.specs.journal_leaving.controller_model.Side.{facts_after, facts_of, notes_after}
use Rattle.journal_sending.specs.journal_leaving.controller_model.Step.{Step as Call, HostOctet, TurnBegins, TurnEnds}
use Rattle.journal_sending.specs.journal_leaving.controller_model.declared.doing.Doing.TheVariants.{Rests}
use Rattle.journal_sending.specs.journal_leaving.controller_model.declared.doing.Turn.{Turn}
use Rattle.journal_sending.specs.journal_leaving.journal_controls.host_masks.Masks.{view_masks}
use Rattle.journal_sending.proofs.journal_leaving.journal_controls.PassedControls.{no_octet}
use Rattle.journal_sending.proofs.journal_leaving.journal_controls.host_masks.LineMasks.{line_masks}
use Rattle.radio_replay.specs.declared.fates.Fate.{Fate}
use Rattle.journal_sending.specs.journal_leaving.journal_acks.Exchange.{is_number}
use Rattle.journal_sending.specs.journal_leaving.journal_acks.link_calls.Uses.{listens_under, sends_under}
use Rattle.journal_sending.specs.journal_leaving.journal_ends.Asked.{Words}
use Rattle.journal_sending.specs.journal_leaving.journal_ends.GivenWords.{GivesWords, draws_in_call}
use Rattle.journal_sending.specs.journal_leaving.journal_packets.Belonging.{is_side, link_of_packet}
use Rattle.journal_sending.specs.journal_leaving.link_model.Facts.{keyed_of}
use Rattle.journal_sending.specs.journal_leaving.link_model.Step.{PacketSent}
use Rattle.journal_sending.specs.journal_leaving.journal_data.open_links.OpenLinks.{OpenLink, facts_in, link_after, link_at}
use Rattle.journal_sending.specs.journal_leaving.run_model.Due.{Each, packet_in}
use Rattle.journal_sending.specs.journal_leaving.run_model.History.{Event, TurnBegan, HostFed, Called, Hearing, Noted, Transmitted, packet_received, turns_begun}
use Rattle.journal_sending.specs.journal_leaving.run_model.Journal.{journal_of, side_of}
use Rattle.journal_sending.specs.journal_leaving.run_model.LinkEnds.{HaveAddresses}
use Rattle.journal_sending.specs.journal_leaving.run_model.Links.{is_advertising}
use Rattle.journal_sending.specs.journal_leaving.run_model.Run.{unseen_in, Given, after_call, after_feed, after_octets, facts_at, hearings_of, history_of, octets_left, run_of, setup_at, step_of, use_at}
use Rattle.journal_sending.proofs.journal_leaving.journal_controls.ControlledEnds.{AreControlledSo, whole as keyed_whole}
use Rattle.journal_sending.proofs.journal_leaving.journal_controls.EventMoves.{air_line, drawn_at, turn_at, withholds_at}
use Rattle.journal_sending.proofs.journal_leaving.journal_controls.KeptControls.{AreControlledAt, IsControlledBefore, controls_first, controls_kept, there_and_back, turn_is}
use Rattle.journal_sending.proofs.journal_leaving.journal_controls.NewLinks.{of_turn}
use Rattle.journal_sending.proofs.journal_leaving.journal_controls.RunControls.{keyed_before_call}
use Rattle.journal_sending.proofs.journal_leaving.journal_acks.Counting.{apart_numbers, facts_event}
use Rattle.journal_sending.proofs.journal_leaving.journal_acks.Exchanging.{number_at, number_called, number_quiet, number_sent}
use Rattle.journal_sending.proofs.journal_leaving.journal_acks.KeptCounts.{unsent, own_at}
use Rattle.journal_sending.proofs.journal_leaving.journal_acks.Known.{known_of}
use Rattle.journal_sending.proofs.journal_leaving.journal_acks.Standing.{PhasedBy, last_phase, listens_wanted, other_sends, phased_at, sends_on, sends_other, silent_sends}
use Rattle.journal_sending.proofs.journal_leaving.journal_acks.TwoStations.{IsOfTwo, hearing_of, one_hearing, other_is, same_number, side_same}
use Rattle.journal_sending.proofs.journal_leaving.journal_acks.link_calls.CallNotes.{OpensNone, begin_noted, end_noted, opening_none}
use Rattle.journal_sending.proofs.journal_leaving.journal_ends.EndsKnown.{AreLined, begun_at, lined_at}
use Rattle.journal_sending.proofs.journal_leaving.journal_ends.KeptSeen.{AreFed as AreSeenFed, AreSeenAt, apart_from, begin_fed, first_fed, lined_next, lined_octet, octet_asks, octet_fed as seen_fed, octet_next}
use Rattle.journal_sending.proofs.journal_leaving.journal_ends.SeenCalls.{IsSeenAt, held_at, moved as seen_moved, whole as seen_whole}
use Rattle.journal_sending.proofs.journal_leaving.journal_ends.run_laws.DistinctAccess.{AreApart}
use Rattle.journal_sending.proofs.journal_leaving.journal_ends.run_laws.Hearings.{own_facts}
use Rattle.journal_sending.proofs.journal_leaving.journal_ends.run_laws.OpenSteps.{none_open, open_has}
use Rattle.journal_sending.proofs.journal_leaving.journal_ends.run_laws.TurnPlaces.{Between, Within, at_stage}
use Rattle.journal_sending.proofs.journal_leaving.journal_ends.run_laws.TurnSteps.{octet_turn, begins_slot}
use Rattle.journal_sending.proofs.journal_leaving.journal_links.OfTwo.{are_distinct, of_two_stations}
use Rattle.journal_sending.proofs.journal_leaving.journal_packets.AccessOrder.{AreNth}
use Rattle.journal_sending.proofs.journal_leaving.journal_packets.SoFar.{IsBelongingSoFar, sends_on_its_link}
use Rattle.journal_sending.proofs.journal_leaving.link_model.Hearing.{IsHeardWhole}
use Rattle.journal_sending.proofs.journal_leaving.run_model.Calls.{same_station}
use Rattle.journal_sending.proofs.journal_leaving.run_model.Fronts.{front_at}
use Rattle.journal_sending.proofs.journal_leaving.run_model.LinkEnds.{AreTaken, IsUnderstood, received_by, received_event, wanted_is}
use Rattle.journal_sending.proofs.journal_leaving.run_model.Places.{each_called, each_event}
use Rattle.journal_sending.proofs.journal_leaving.run_model.Stations.{among, in_more_other, in_more_same, is_in, not_before}
use Rattle.journal_sending.proofs.journal_leaving.run_model.Walk.{AtBegins, AtEnds, AtFeeds, AtListening, AtPackets, IsKept, NoTurn, Place}
use Rattle.journal_sending.proofs.journal_leaving.journal_data.OneCall.{far_side}
use Rattle.journal_sending.specs.journal_leaving.Leaving.{is_own_packet}
use Rattle.journal_sending.specs.journal_leaving.journal_acks.link_calls.Turns.{sent_if}
use Rattle.journal_sending.proofs.journal_leaving.journal_controls.AskedControls.{call_asks as keyed_asks, end_asked as end_keyed}
use Rattle.journal_events.specs.EventLines.{changed_if, lengths_differ}
use Rattle.journal_events.specs.Told.{event_lines, event_next, event_taking}
use Rattle.std.proofs.lemmas.Option.{same_Some}
use Rattle.journal_sending.proofs.journal_leaving.journal_acks.link_calls.UnderHandles.{octet_under}
use Rattle.journal_events.proofs.AskedEvents.{call_asks}
use Rattle.journal_events.proofs.HostedEvents.{asked_holds}
use Rattle.journal_events.proofs.EventMoves.{event_at, feed_still, turn_still}
use Rattle.journal_events.proofs.EventEnds.{AreEventsSo, IsEventAt, and_none, any_sending, asked_own, events_call, events_event, events_same, goes_own, moved, taking_next, whole}
use Rattle.journal_events.proofs.EventPackets.{other_event, own_event}
use Rattle.journal_events.proofs.LinkEvents.{EventsTo, begin_events, end_events}
use Rattle.journal_events.proofs.PacketBits.{says_heard, says_sent}
use Rattle.journal_events.proofs.PassedEvents.{passes_own}

-- ---- what is kept

-- each open end of a station is in the event that the journal says
abbrev pub AreEventsOf : Words → Given → List Event → ℕ → Type 0
AreEventsOf words given history station =
    is_in station given.stations ≡ true → (handle : ℕ) (link : OpenLink) → link_at handle (facts_at given station history).links ≡ Some link
    → event_at words (number_at station handle history) (side_of station) history ≡ event_lines (facts_in link)

abbrev pub AreEvents : Words → Given → List Event → Type 0
AreEvents words given history = (station : ℕ) → AreEventsOf words given history station

-- before a call, it is that as the packet of the call has reached the end
abbrev pub IsEventBefore : Words → Given → List Event → ℕ → Call → Type 0
IsEventBefore words given before station step =
    is_in station given.stations ≡ true → (handle : ℕ) (link : OpenLink) → link_at handle (facts_at given station before).links ≡ Some link
    → event_at words (number_at station handle before) (side_of station) before ≡ event_next handle (facts_at given station before) step link

abbrev pub EventBefore : Words → Given → List Event → Event → Type 0
EventBefore words given before (TurnBegan slot radios) = AreEvents words given before
EventBefore words given before (Called station step) = IsEventBefore words given before station step
EventBefore words given before (HostFed station octets) = Unit {0}
EventBefore words given before (Noted station note) = Unit {0}
EventBefore words given before (Transmitted station channel octets hearings) = Unit {0}

pub record AreEventsAt (words : Words) (given : Given) (place : Place) (history : List Event) : Type 0 where
  pub controls : AreControlledAt words given place history
  pub events : AreEventsSo words given history (unsent place) (λ station. packet_received station history)
  pub each : Each (EventBefore words given) [] history

-- where a station neither sends nor has received anything, all its ends are as they were
whole_at : (words : Words) (given : Given) (history : List Event) (unsent : ℕ → Bool) (received : ℕ → Option (List ℕ)) (station handle : ℕ) (link : OpenLink) → is_in station given.stations ≡ true
    → link_at handle (facts_at given station history).links ≡ Some link → (unsent station && sends_under handle (facts_at given station history).turn.doing) ≡ false
    → (listens_under handle (facts_at given station history).turn.doing ≡ true → received station ≡ None)
    → AreEventsSo words given history unsent received → event_at words (number_at station handle history) (side_of station) history ≡ event_lines (facts_in link)
whole_at words given history unsent received station handle link in_it at sent none are =
    whole words (unsent station) (received station) handle (facts_at given station history).turn link (number_at station handle history) (side_of station) history sent none
    (are station handle link in_it at)

-- a call in which nothing is heard
whole_before : (words : Words) (given : Given) (history : List Event) (unsent : ℕ → Bool) (received : ℕ → Option (List ℕ)) (station : ℕ) (step : Call)
    → ((handle : ℕ) (facts : Facts) (link : OpenLink) → event_next handle facts step link ≡ event_lines (facts_in link))
    → ((handle : ℕ) → (unsent station && sends_under handle (facts_at given station history).turn.doing) ≡ false) → received station ≡ None
    → AreEventsSo words given history unsent received → IsEventBefore words given history station step
whole_before words given history unsent received station step deaf sent none are = λ in_it handle link at.
    whole_at words given history unsent received station handle link in_it at (sent handle) (λ on. none) are ∙ sym (deaf handle (facts_at given station history) link)

-- a call, and all that is noted in it
call_each : (words : Words) (given : Given) (station : ℕ) (step : Call) (history : List Event) → Each (EventBefore words given) [] history
    → IsEventBefore words given history station step → Each (EventBefore words given) [] (after_call given station step history)
call_each words given station step history each is =
    each_called (EventBefore words given) station step (notes_after (setup_at given station) (facts_at given station history) step) history each is (λ before note. tt)

-- ---- small steps

abbrev NoneReceived : ℕ → Option (List ℕ)
NoneReceived station = None

-- all that a station has to send is still to come
abbrev AllUnsent : ℕ → Bool
AllUnsent station = true

-- between two turns no station sends
pub all_events : (words : Words) (given : Given) (history : List Event) → AreEventsAt words given NoTurn history → AreEvents words given history
all_events words given history has = λ station in_it handle link at.
    let holds = has.controls.seen.holds in
    let rests = (phased_at given NoTurn history holds.hearing.stand station in_it).phase in
    whole_at words given history AllUnsent (λ one. packet_received one history) station handle link in_it at (ap (sends_under handle) rests) (λ on. holds.hearing.hears station in_it) has.events

module _ (words : Words) (heard_whole : IsHeardWhole) (understood : IsUnderstood) (taken : AreTaken) (nth : AreNth) (apart : AreApart) (given : Given) (are_two : IsOfTwo given)
    (six : HaveAddresses given) (gives : GivesWords given words) where
  -- what an end is before a call
  keyed_in : (history notes rest : List Event) (station : ℕ) (step : Call) → history_of (run_of given) ≡ (history ++ Called station step ∷ notes) ++ rest
      → IsControlledBefore words given history station step
  keyed_in history notes rest station step at =
      keyed_before_call words heard_whole understood taken nth apart given are_two six gives history (notes ++ rest) station step (at ∙ append_assoc history (Called station step ∷ notes) rest)

  -- ---- what a host sends

  record AreFed (station begun : ℕ) (history : List Event) : Type 0 where
    rests : (facts_at given station history).turn.doing ≡ Rests
    events : AreEventsSo words given history AllUnsent NoneReceived
    each : Each (EventBefore words given) [] history
    seen : AreSeenFed words understood taken nth apart given are_two six station begun history

  octet_fed : (station octet begun : ℕ) (history rest : List Event) → is_in station given.stations ≡ true
      → history_of (run_of given) ≡ history ++ Called station (HostOctet octet) ∷ rest → AreLined given history → AreLined given (after_call given station (HostOctet octet) history)
      → AreFed station begun history → AreFed station begun (after_call given station (HostOctet octet) history)
  octet_fed station octet begun history rest in_it at lined lined_after fed =
      let step = HostOctet octet in
      let setup = setup_at given station in
      let facts = facts_at given station history in
      let side = side_of station in
      let words_are = gives.gives history rest station step refl at in
      let rests = ap (λ (f : Facts). f.turn.doing) (own_facts given station step history) ∙ ap (λ (turn : Turn). turn.doing) (octet_turn setup facts octet).turn ∙ fed.rests in record {
        rests = rests;
        events = events_call words given station step history AllUnsent AllUnsent NoneReceived NoneReceived (apart_from words understood taken nth apart given are_two six station in_it) gives.kept lined lined_after
            (λ handle link held.
            let number = number_at station handle history in
            let asks = octet_asks words understood taken nth apart given are_two six station octet begun history rest in_it at words_are lined lined_after fed.seen handle link held in
            let base = asks.base in
            let k = keyed_of (facts_in base) in
            let was_keyed = keyed_before_call words heard_whole understood taken nth apart given are_two six gives history rest station step at in_it handle base asks.was in
            let now_keyed = keyed_asks words given side number station step history asks.is.asked k asks.lines asks.answers was_keyed
            ∙ ap Some (end_keyed base link asks.is.asked asks.is.by_host asks.is.keyed_is) in
            let alike = octet_under setup facts octet handle link (own_at given station step history handle link held) in
            let same = same_Some alike.link base (sym alike.was ∙ asks.was) in
            asked_own words given station step history in_it lined lined_after handle link held None refl asks.number base asks.was
            (call_asks words given side number station step history asks.is.asked asks.lines asks.answers
            ∙ (λ i. changed_if (lengths_differ (was_keyed i) (now_keyed i))
            (whole_at words given history AllUnsent NoneReceived station handle base in_it asks.was (ap (sends_under handle) fed.rests) (λ on. refl) fed.events i))
            ∙ sym (asked_holds side number _ _ _ base link asks.is (alike.event ∙ ap (λ (l : OpenLink). (facts_in l).event) same) (alike.good ∙ ap (λ (l : OpenLink). (facts_in l).last_good) same)))
            (ap (sends_under handle) rests))
            (λ other is_too differs. refl) (λ other is_too differs. refl) fed.events;
        each = call_each words given station step history fed.each
            (whole_before words given history AllUnsent NoneReceived station step (λ handle held link. refl) (λ handle. ap (sends_under handle) fed.rests) refl fed.events);
        seen = seen_fed words understood taken nth apart given are_two six station octet begun history rest in_it at words_are lined lined_after fed.seen;
      }

  octets_fed : (station : ℕ) (octets : List ℕ) (begun : ℕ) (history rest : List Event) → is_in station given.stations ≡ true
      → history_of (run_of given) ≡ after_octets given station octets history ++ rest → AreLined given (after_octets given station octets history)
      → AreFed station begun history → AreFed station begun (after_octets given station octets history)
  octets_fed station [] begun history rest in_it is lined fed = fed
  octets_fed station (octet ∷ octets) begun history rest in_it is lined fed =
      let next = after_call given station (HostOctet octet) history in
      let now = octet_next given station octet octets history rest is in
      octets_fed station octets begun next rest in_it is lined
      (octet_fed station octet begun history now.rest in_it now.at
      (lined_octet words understood taken nth apart given are_two six station octet octets history rest is)
      (lined_next words understood taken nth apart given are_two six station octets next rest is lined) fed)

  feed_fed : (station : ℕ) (octets : List ℕ) (begun : ℕ) (history rest : List Event) → is_in station given.stations ≡ true
      → history_of (run_of given) ≡ after_feed given station octets history ++ rest → AreLined given history → AreLined given (after_feed given station octets history)
      → AreFed station begun history → AreFed station begun (after_feed given station octets history)
  feed_fed station [] begun history rest in_it is lined lined_after fed = fed
  feed_fed station (octet ∷ octets) begun history rest in_it is lined lined_after fed =
      let event = HostFed station (octet ∷ octets) in
      octets_fed station (octet ∷ octets) begun (history ++ event ∷ []) rest in_it is lined_after (record {
        rests = ap (λ (f : Facts). f.turn.doing) (facts_event given station history event refl) ∙ fed.rests;
        events = events_event words given history event AllUnsent NoneReceived (λ one. refl) (λ number side. feed_still words number side history station (octet ∷ octets))
            (λ one handle. number_quiet one handle history event (λ links. refl)) fed.events;
        each = each_event (EventBefore words given) history event fed.each tt;
        seen = begin_fed words understood taken nth apart given are_two six station octet octets begun history rest is lined fed.seen;
      })

  -- ---- a station that sends nothing

  silence_events : (phases : ℕ) (done left : List ℕ) (station : ℕ) (history : List Event) → given.stations ≡ done ++ station ∷ left
      → packet_in (use_at given station history) ≡ [] → AreEventsAt words given (AtPackets phases done (station ∷ left)) history
      → AreEventsSo words given history (unsent (AtPackets phases (done ++ station ∷ []) left)) (λ one. packet_received one history)
  silence_events phases done left station history are none has = λ one handle link in_it at. by one handle link in_it at (one == station) refl
    where
      by : (one handle : ℕ) (link : OpenLink) → is_in one given.stations ≡ true → link_at handle (facts_at given one history).links ≡ Some link → (same : Bool) → (one == station) ≡ same
          → IsEventAt words (not (is_in one (done ++ station ∷ []))) (packet_received one history) handle (facts_at given one history).turn link (number_at one handle history) (side_of one) history
      by one handle link in_it at true same =
          let place = AtPackets phases done (station ∷ left) in
          let phased = phased_at given place history has.controls.seen.holds.hearing.stand one in_it in
          any_sending words (not (is_in one done)) (not (is_in one (done ++ station ∷ []))) (packet_received one history) handle (facts_at given one history).turn link
          (number_at one handle history) (side_of one) history
          (silent_sends (facts_at given one history) handle link phased.uses.sends at
          (ap packet_in (wanted_is given one history) ∙ ap (λ n. packet_in (use_at given n history)) (eqb-true one station same) ∙ none)) (has.events one handle link in_it at)
      by one handle link in_it at false differs =
          subst (λ b. IsEventAt words (not b) (packet_received one history) handle (facts_at given one history).turn link (number_at one handle history) (side_of one) history)
          (sym (in_more_other one station done differs)) (has.events one handle link in_it at)

  -- ---- a packet

  module _ (phases : ℕ) (done left : List ℕ) (station channel : ℕ) (octets : List ℕ) (fates : List Fate) (history : List Event) (stations_are : given.stations ≡ done ++ station ∷ left)
      (wanted : use_at given station history ≡ Sends channel octets)
      (is_seen : unseen_in octets (hearings_of given fates station channel octets history) ≡ None) (has : AreEventsAt words given (AtPackets phases done (station ∷ left)) history) where
    abbrev place : Place
    place = AtPackets phases done (station ∷ left)

    abbrev place_after : Place
    place_after = AtPackets phases (done ++ station ∷ []) left

    abbrev hearing : Hearing
    hearing = hearing_of given fates station channel octets history

    abbrev hearings : List Hearing
    hearings = hearings_of given fates station channel octets history

    abbrev after : List Event
    after = history ++ Transmitted station channel octets hearings ∷ []

    abbrev facts : ℕ → Facts
    facts one = facts_at given one history

    in_it : is_in station given.stations ≡ true
    in_it = among given.stations done left station stations_are

    aired_is : after ≡ history ++ Transmitted station channel octets (hearing ∷ []) ∷ []
    aired_is = ap (λ xs. history ++ Transmitted station channel octets xs ∷ []) (one_hearing given are_two fates station channel octets history in_it)

    -- before it, no end has one to take
    none_before : (one handle : ℕ) (link : OpenLink) → is_in one given.stations ≡ true → link_at handle (facts one).links ≡ Some link
        → listens_under handle (facts one).turn.doing ≡ true → packet_received one history ≡ None
    none_before one handle link in_one at on = by (one == station) refl
      where
        by : (same : Bool) → (one == station) ≡ same → packet_received one history ≡ None
        by true same =
            let listens = (phased_at given place history has.controls.seen.holds.hearing.stand one in_one).uses.in_turn.listens in
            let sends = ap (λ n. use_at given n history) (eqb-true one station same) ∙ wanted in
            absurd (let h : Sends channel octets ≡ Listens (facts_in link).event.channel =
            sym sends ∙ sym (wanted_is given one history) ∙ listens_wanted (facts one) handle link (facts one).turn.doing on listens at in absurd cc)
        by false differs = has.controls.seen.silent one station in_one in_it differs (not_before given.stations done left station (are_distinct given are_two) stations_are)

    -- it is of the link on which its station sends
    abbrev own_test : Side → ℕ → Bool
    own_test side number = is_own_packet side number (journal_of history) (air_line station channel octets hearing)

    own_is : (handle : ℕ) (link : OpenLink) → link_at handle (facts station).links ≡ Some link
        → own_test (side_of station) (number_at station handle history) ≡ sends_under handle (facts station).turn.doing
    own_is handle link at = by (is_advertising channel) refl
      where
        by : (on : Bool) → is_advertising channel ≡ on → own_test (side_of station) (number_at station handle history) ≡ sends_under handle (facts_at given station history).turn.doing
        by true on =
            let phased = phased_at given place history has.controls.seen.holds.hearing.stand station in_it in
            ap (λ b. (not b && is_number (link_of_packet (journal_of history) (side_of station) octets) (number_at station handle history)) && is_side (side_of station) (side_of station)) on
            ∙ sym (other_sends (facts station) handle channel octets link phased.uses.sends at (wanted_is given station history ∙ wanted) on)
        by false off =
            let known = has.controls.seen.known in
            let sent = sends_on_its_link nth apart given are_two six phases done left station history stations_are known channel octets wanted off in
            let are_apart = apart_numbers given (IsBelongingSoFar given) (known_of understood taken nth apart given are_two six) place history known station sent.handle handle
            (link_after (PacketSent sent.slot) sent.link) link in_it sent.is_open at in
            (λ i. (not (off i) && is_number (sent.belongs i) (number_at station handle history)) && side_same station i)
            ∙ and_yes (number_at station sent.handle history == number_at station handle history)
            ∙ which sent.handle (sent.handle == handle) refl (sends_on sent.handle (facts station).turn.doing sent.sends) are_apart
          where
            and_yes : (b : Bool) → (b && true) ≡ b
            and_yes true = refl
            and_yes false = refl

            which : (one : ℕ) → (same : Bool) → (one == handle) ≡ same → sends_under one (facts_at given station history).turn.doing ≡ true
                → ((one == handle) ≡ false → (number_at station one history == number_at station handle history) ≡ false)
                → (number_at station one history == number_at station handle history) ≡ sends_under handle (facts_at given station history).turn.doing
            which one true same sends are_apart =
                let equal = eqb-true one handle same in
                ap (λ n. number_at station n history == number_at station handle history) equal ∙ same_number (number_at station handle history)
                ∙ sym (ap (λ n. sends_under n (facts_at given station history).turn.doing) (sym equal) ∙ sends)
            which one false differs sends are_apart = are_apart differs ∙ sym (sends_other one handle (facts_at given station history).turn.doing sends differs)

    -- it is not an advertising one, where its station sends on a link
    off_air : (handle : ℕ) (link : OpenLink) → link_at handle (facts station).links ≡ Some link → sends_under handle (facts station).turn.doing ≡ true → is_advertising channel ≡ false
    off_air handle link at on = by (is_advertising channel) refl
      where
        by : (advertises : Bool) → is_advertising channel ≡ advertises → is_advertising channel ≡ false
        by false off = off
        by true on_air =
            let phased = phased_at given place history has.controls.seen.holds.hearing.stand station in_it in
            absurd (let h : true ≡ false = sym on ∙ other_sends (facts station) handle channel octets link phased.uses.sends at (wanted_is given station history ∙ wanted) on_air in absurd cc)

    other_is_none : (one number : ℕ) → is_in one given.stations ≡ true → (one == station) ≡ false → own_test (side_of one) number ≡ false
    other_is_none one number in_one differs =
        ap (λ n. own_test (side_of n) number) (other_is given are_two station one in_it in_one differs)
        ∙ ap (λ b. (not (is_advertising channel) && is_number (link_of_packet (journal_of history) (side_of station) octets) number) && b) (far_side station)
        ∙ and_none (not (is_advertising channel) && is_number (link_of_packet (journal_of history) (side_of station) octets) number)

    module _ (seen : AreSeenAt words given place_after after) (controls : AreControlledSo words given after (λ one. packet_received one after)) where
      -- an end whose packet it is not
      not_own : (one handle : ℕ) (link : OpenLink) → is_in one given.stations ≡ true → link_at handle (facts_at given one after).links ≡ Some link
          → own_test (side_of one) (number_at one handle history) ≡ false
          → (unsent place_after one && sends_under handle (facts one).turn.doing) ≡ (unsent place one && sends_under handle (facts one).turn.doing)
          → IsEventAt words (unsent place_after one) (packet_received one after) handle (facts_at given one after).turn link (number_at one handle after) (side_of one) after
      not_own one handle link in_one at foreign sent =
          let turn = (facts one).turn in
          let turn_after = (facts_at given one after).turn in
          let side = side_of one in
          let number = number_at one handle history in
          let numbers = number_sent one handle history station channel octets hearings in
          let same = facts_event given one history (Transmitted station channel octets hearings) refl in
          let turns = ap (λ (f : Facts). f.turn) same in
          let is_open = ap (λ (f : Facts). link_at handle f.links) (sym same) ∙ at in
          let none = none_before one handle link in_one is_open in
          let received = packet_received one history in
          let received_too = packet_received one after in
          let aired = history ++ Transmitted station channel octets (hearing ∷ []) ∷ [] in
          let moves = other_event words number side history station channel octets hearing received received_too handle turn link (unsent place one) (unsent place_after one) none
          (has.events one handle link in_one is_open) foreign
          (λ got on some. (controls one handle link in_one at).handed got (ap (λ (now : Turn). listens_under handle now.doing) turns ∙ on) some)
          (λ got pdu on some good. says_heard heard_whole understood taken nth apart given are_two six phases done left station channel octets fates history stations_are wanted has.controls.lined
          (λ other is_too differs. has.controls.seen.silent other station is_too in_it differs (not_before given.stations done left station (are_distinct given are_two) stations_are))
          is_seen one in_one handle link is_open on (none on) got pdu some good) sent
          (seen_whole words received handle turn link number side history none (has.controls.seen.seen one handle link in_one is_open))
          (subst (λ h. IsSeenAt words received_too handle turn link number side h) aired_is
          (seen_moved words handle link side after received_too received_too turn_after turn (number_at one handle after) number refl (sym turns) (sym numbers) (seen.seen one handle link in_one at)))
          (keyed_whole words received handle turn link number side history none (has.controls.control one handle link in_one is_open)) in
          moved words handle link side after (unsent place_after one) (unsent place_after one) received_too received_too turn turn_after number (number_at one handle after) refl refl turns numbers
          (subst (λ h. IsEventAt words (unsent place_after one) received_too handle turn link number side h) (sym aired_is) moves)

      -- an end of the station that sends it
      at_sender : (handle : ℕ) (link : OpenLink) → link_at handle (facts_at given station after).links ≡ Some link
          → IsEventAt words (unsent place_after station) (packet_received station after) handle (facts_at given station after).turn link (number_at station handle after) (side_of station) after
      at_sender handle link at = by (sends_under handle (facts station).turn.doing) refl
        where
          is_open : link_at handle (facts_at given station history).links ≡ Some link
          is_open = ap (λ (f : Facts). link_at handle f.links) (sym (facts_event given station history (Transmitted station channel octets hearings) refl)) ∙ at

          by : (sends : Bool) → sends_under handle (facts_at given station history).turn.doing ≡ sends
              → IsEventAt words (unsent place_after station) (packet_received station after) handle (facts_at given station after).turn link (number_at station handle after) (side_of station) after
          by true on =
              let turn = (facts station).turn in
              let turn_after = (facts_at given station after).turn in
              let side = side_of station in
              let number = number_at station handle history in
              let received_too = packet_received station after in
              let before = ap not (not_before given.stations done left station (are_distinct given are_two) stations_are) in
              let now = ap not (in_more_same station station done (same_station station)) in
              let was = has.events station handle link in_it is_open in
              let slot_is = turn_is history turn.slot (sym (phased_at given place history has.controls.seen.holds.hearing.stand station in_it).uses.in_turn.slot_is) in
              let moves = own_event words number side history station channel octets hearing (packet_received station history) received_too handle turn link
              (unsent place station) (unsent place_after station) (none_before station handle link in_it is_open) was
              (own_is handle link is_open ∙ on) before now on slot_is
              (says_sent heard_whole understood taken nth apart given are_two six phases done left station channel octets history stations_are wanted has.controls.seen.known
              (off_air handle link is_open on) handle link is_open on was.base turn.slot
              (was.is ∙ (λ i. sent_if (before i && on i) turn.slot was.base))) in
              moved words handle link side after (unsent place_after station) (unsent place_after station) received_too received_too turn turn_after number (number_at station handle after) refl refl
              (ap (λ (f : Facts). f.turn) (facts_event given station history (Transmitted station channel octets hearings) refl))
              (number_sent station handle history station channel octets hearings)
              (subst (λ h. IsEventAt words (unsent place_after station) received_too handle turn link number side h) (sym aired_is) moves)
          by false off =
              not_own station handle link in_it at (own_is handle link is_open ∙ off)
              (ap (λ b. unsent place_after station && b) off ∙ and_none (unsent place_after station) ∙ sym (ap (λ b. unsent place station && b) off ∙ and_none (unsent place station)))

      packet_events : AreEventsSo words given after (unsent place_after) (λ one. packet_received one after)
      packet_events = λ one handle link in_one at. by one handle link in_one at (one == station) refl
        where
          by : (one handle : ℕ) (link : OpenLink) → is_in one given.stations ≡ true → link_at handle (facts_at given one after).links ≡ Some link → (same : Bool) → (one == station) ≡ same
              → IsEventAt words (unsent place_after one) (packet_received one after) handle (facts_at given one after).turn link (number_at one handle after) (side_of one) after
          by one handle link in_one at true same =
              let equal = eqb-true one station same in
              subst (λ n. IsEventAt words (unsent place_after n) (packet_received n after) handle (facts_at given n after).turn link (number_at n handle after) (side_of n) after) (sym equal)
              (at_sender handle link (subst (λ n. link_at handle (facts_at given n after).links ≡ Some link) equal at))
          by one handle link in_one at false differs =
              not_own one handle link in_one at (other_is_none one (number_at one handle history) in_one differs)
              (ap (λ b. not b && sends_under handle (facts one).turn.doing) (in_more_other one station done differs))

  -- ---- each step

  pub events_kept : IsKept given (AreEventsAt words given)
  events_kept =
      let distinct = are_distinct given are_two in
      let kept = controls_kept words heard_whole understood taken nth apart given are_two six gives in record {
        on_turn = λ slot plan history begun at has.
            let event = TurnBegan slot (map plan.radio_of given.stations) in record {
              controls = kept.on_turn slot plan history begun at has.controls;
              events = events_same words given (history ++ event ∷ []) AllUnsent AllUnsent (λ one. packet_received one history) (λ one. packet_received one (history ++ event ∷ []))
                  (λ one in_one. refl) (λ one in_one. received_event one history event)
                  (events_event words given history event AllUnsent (λ one. packet_received one history) (λ one. refl)
                  (λ number side. turn_still words number side history slot (map plan.radio_of given.stations)) (λ one handle. number_quiet one handle history event (λ links. refl)) has.events);
              each = each_event (EventBefore words given) history event has.each (all_events words given history has);
            };
        on_feed = λ plan done left station history are some now has.
            let octets = take (plan.feed_of station) (octets_left given station history) in
            let in_it = among given.stations done left station are in
            let after = after_feed given station octets history in
            let place = AtFeeds (done ++ station ∷ []) left in
            let controls = kept.on_feed plan done left station history are some now has.controls in
            let hears = has.controls.seen.holds.hearing.hears in
            let front = front_at given place after controls.seen.known.front in
            let fed = feed_fed station octets (turns_begun history - 1) history front.rest in_it front.at
            (lined_at understood taken given are_two six (AtFeeds done (station ∷ left)) history has.controls.seen.known)
            (lined_at understood taken given are_two six place after controls.seen.known) (record {
              rests = (phased_at given (AtFeeds done (station ∷ left)) history has.controls.seen.holds.hearing.stand station in_it).phase;
              events = events_same words given history AllUnsent AllUnsent (λ one. packet_received one history) NoneReceived (λ one in_one. refl) (λ one in_one. sym (hears one in_one)) has.events;
              each = has.each;
              seen = first_fed words understood taken nth apart given are_two six done left station history in_it has.controls.seen;
            }) in record {
              controls = controls;
              events = events_same words given after AllUnsent AllUnsent NoneReceived (λ one. packet_received one after) (λ one in_one. refl)
                  (λ one in_one. controls.seen.holds.hearing.hears one in_one) fed.events;
              each = fed.each;
            };
        on_fed = λ history has. record { controls = kept.on_fed history has.controls; events = has.events; each = has.each };
        on_begin = λ slot plan done left station history are due has.
            let on = plan.radio_of station in
            let step = TurnBegins slot on in
            let in_it = among given.stations done left station are in
            let setup = setup_at given station in
            let facts = facts_at given station history in
            let after = after_call given station step history in
            let notes = map (Noted station) (notes_after setup facts step) in
            let controls = kept.on_begin slot plan done left station history are due has.controls in
            let place = AtBegins (done ++ station ∷ []) left in
            let front = front_at given place after controls.seen.known.front in
            let lined = lined_at understood taken given are_two six (AtBegins done (station ∷ left)) history has.controls.seen.known in
            let lined_after = lined_at understood taken given are_two six place after controls.seen.known in
            let none = has.controls.seen.holds.hearing.hears station in_it in
            let phased = subst (λ b. PhasedBy given history station (if b then at_stage (Within 0) (turns_begun history) else at_stage Between (turns_begun history - 1)))
            (not_before given.stations done left station distinct are) (phased_at given (AtBegins done (station ∷ left)) history has.controls.seen.holds.hearing.stand station in_it) in
            let before = keyed_in history notes front.rest station step front.at in record {
              controls = controls;
              events = events_call words given station step history AllUnsent AllUnsent (λ one. packet_received one history) (λ one. packet_received one after)
                  (apart_from words understood taken nth apart given are_two six station in_it) gives.kept lined lined_after (λ handle link at.
                  let number = number_at station handle history in
                  let side = side_of station in
                  let withheld = withholds_at side history in
                  let sends = sends_under handle (facts_after setup facts step).turn.doing in
                  let goes = begin_events side number withheld (drawn_at words side history) slot setup facts on handle link (held_at words given station step history in_it lined lined_after handle link at) in
                  let k = keyed_of (facts_in goes.base) in
                  let e = event_lines (facts_in goes.base) in
                  let slot_is = turn_is history slot due.slot_is in
                  goes_own words given station step history in_it lined lined_after handle link at (packet_received station after) (controls.seen.holds.hearing.hears station in_it)
                  (number_called given station step history handle (begin_noted (OpensNone handle) (opening_none handle) setup slot on facts)) goes.base goes.was
                  gives.kept tt sends k e (subst (λ n. EventsTo side number withheld (drawn_at words side history) n goes.base link sends k e) (sym slot_is) goes.is)
                  (ap (λ (f : Facts). sends_under handle f.turn.doing) (own_facts given station step history))
                  (λ held. ap (λ n. sent_if sends n held) (slot_is ∙ sym (ap (λ (f : Facts). f.turn.slot) (own_facts given station step history) ∙ begins_slot setup slot on facts)))
                  (before in_it handle goes.base goes.was)
                  (whole_at words given history AllUnsent (λ one. packet_received one history) station handle goes.base in_it goes.was (ap (sends_under handle) phased.phase) (λ listens. none) has.events))
                  (λ other is_too differs. refl) (λ other is_too differs. received_by given other station step history false differs) has.events;
              each = call_each words given station step history has.each
                  (whole_before words given history AllUnsent (λ one. packet_received one history) station step (λ handle held link. refl) (λ handle. ap (sends_under handle) phased.phase) none has.events);
            };
        on_begun = λ history has. record { controls = kept.on_begun history has.controls; events = has.events; each = has.each };
        on_phase = λ phases history few has. record { controls = kept.on_phase phases history few has.controls; events = has.events; each = has.each };
        on_silence = λ phases done left station history are none has. record {
          controls = kept.on_silence phases done left station history are none has.controls;
          events = silence_events phases done left station history are none has;
          each = has.each;
        };
        on_packet = λ phases plan done left station channel octets history are some due has.
            let controls = kept.on_packet phases plan done left station channel octets history are some due has.controls in record {
              controls = controls;
              events = packet_events phases done left station channel octets plan.fates history are due.is_wanted due.is_seen has controls.seen controls.control;
              each = each_event (EventBefore words given) history (Transmitted station channel octets (hearings_of given plan.fates station channel octets history)) has.each tt;
            };
        on_air = λ phases history has. record {
          controls = kept.on_air phases history has.controls;
          events = events_same words given history (λ one. not (is_in one given.stations)) (λ one. is_in one []) (λ one. packet_received one history) (λ one. packet_received one history)
              (λ one in_one. sym (ap not in_one)) (λ one in_one. refl) has.events;
          each = has.each;
        };
        on_hearing = λ phases done left station history are some has.
            let received = packet_received station history in
            let step = step_of received in
            let in_it = among given.stations done left station are in
            let after = after_call given station step history in
            let facts = facts_at given station history in
            let place = AtListening phases (done ++ station ∷ []) left in
            let out = not_before given.stations done left station distinct are in
            let controls = kept.on_hearing phases done left station history are some has.controls in
            let lined = lined_at understood taken given are_two six (AtListening phases done (station ∷ left)) history has.controls.seen.known in
            let lined_after = lined_at understood taken given are_two six place after controls.seen.known in
            let front = front_at given place after controls.seen.known.front in
            let notes = map (Noted station) (notes_after (setup_at given station) facts step) in
            let phased =
            subst (λ b. PhasedBy given history station (if b then at_stage (Within (suc phases)) (turns_begun history) else at_stage (Within phases) (turns_begun history)))
            out (phased_at given (AtListening phases done (station ∷ left)) history has.controls.seen.holds.hearing.stand station in_it) in
            let held = ap withheld_by (sym (ap (λ n. view_masks (facts_at given n history).view) (sym (there_and_back station (of_two_stations given are_two station in_it)))
            ∙ line_masks given are_two (side_of station) history (notes ++ front.rest) (Called station step) (front.at ∙ append_assoc history (Called station step ∷ notes) front.rest)
            (no_octet received))) in record {
              controls = controls;
              events = events_call words given station step history (λ one. is_in one done) (λ one. is_in one (done ++ station ∷ [])) (λ one. packet_received one history) (λ one. packet_received one after)
                  (apart_from words understood taken nth apart given are_two six station in_it) gives.kept lined lined_after
                  (λ handle link at. subst (λ b. IsEventAt words b (packet_received station after) handle (facts_at given station after).turn link (number_at station handle after) (side_of station) after)
                  (sym (in_more_same station station done (same_station station)))
                  (passes_own words given station history phases in_it phased lined lined_after controls.seen.seen held
                  (turn_is history facts.turn.slot (sym phased.uses.in_turn.slot_is)) gives.kept
                  (λ octets some. gives.gives history (notes ++ front.rest) station step (ap draws_in_call (ap step_of some))
                  (front.at ∙ append_assoc history (Called station step ∷ notes) front.rest))
                  (λ one link at. begun_at given are_two place after controls.seen.known station one link at)
                  (of_turn understood taken given are_two six phases (turns_begun history) done left station history (Called station step ∷ (notes ++ front.rest)) are
                  (front.at ∙ append_assoc history (Called station step ∷ notes) front.rest)
                  has.controls.seen.known.numbered.linked phased (has.controls.seen.holds.so_far.last.each station in_it))
                  has.controls.control (λ one. is_in one done) out has.events handle link at))
                  (λ other is_too differs. in_more_other other station done differs) (λ other is_too differs. received_by given other station step history false differs) has.events;
              each = call_each words given station step history has.each (λ in_one handle link at.
                  let before = has.events station handle link in_it at in
                  let same : link ≡ before.base = before.is ∙ ap (λ b. sent_if (b && sends_under handle facts.turn.doing) facts.turn.slot before.base) out in
                  before.on ∙ ap (event_taking (listens_under handle facts.turn.doing) received facts.turn.slot) (sym same) ∙ taking_next handle facts received link);
            };
        on_heard = λ phases history has. record {
          controls = kept.on_heard phases history has.controls;
          events = events_same words given history (λ one. is_in one given.stations) AllUnsent (λ one. packet_received one history) (λ one. packet_received one history)
              (λ one in_one. sym in_one) (λ one in_one. refl) has.events;
          each = has.each;
        };
        on_phases = λ history has. record { controls = kept.on_phases history has.controls; events = has.events; each = has.each };
        on_end = λ done left station history are some has.
            let step = TurnEnds in
            let in_it = among given.stations done left station are in
            let setup = setup_at given station in
            let facts = facts_at given station history in
            let after = after_call given station step history in
            let notes = map (Noted station) (notes_after setup facts step) in
            let controls = kept.on_end done left station history are some has.controls in
            let place = AtEnds (done ++ station ∷ []) left in
            let front = front_at given place after controls.seen.known.front in
            let lined = lined_at understood taken given are_two six (AtEnds done (station ∷ left)) history has.controls.seen.known in
            let lined_after = lined_at understood taken given are_two six place after controls.seen.known in
            let none = has.controls.seen.holds.hearing.hears station in_it in
            let phased = subst (λ b. PhasedBy given history station (if b then at_stage Between (turns_begun history) else at_stage (Within 3) (turns_begun history)))
            (not_before given.stations done left station distinct are) (phased_at given (AtEnds done (station ∷ left)) history has.controls.seen.holds.hearing.stand station in_it) in
            let silent : (handle : ℕ) → sends_under handle facts.turn.doing ≡ false = λ handle. last_phase facts.links facts.turn.doing handle phased.phase in
            let before = keyed_in history notes front.rest station step front.at in record {
              controls = controls;
              events = events_call words given station step history AllUnsent AllUnsent (λ one. packet_received one history) (λ one. packet_received one after)
                  (apart_from words understood taken nth apart given are_two six station in_it) gives.kept lined lined_after (λ handle link at.
                  let number = number_at station handle history in
                  let side = side_of station in
                  let goes = end_events side number (withholds_at side history) (drawn_at words side history) (turn_at history) setup facts handle link
                  (held_at words given station step history in_it lined lined_after handle link at) in
                  let k = keyed_of (facts_in goes.base) in
                  goes_own words given station step history in_it lined lined_after handle link at (packet_received station after) (controls.seen.holds.hearing.hears station in_it)
                  (number_called given station step history handle (end_noted (OpensNone handle) (opening_none handle).starts.feeds setup facts)) goes.base goes.was
                  gives.kept tt false k (event_lines (facts_in goes.base)) goes.is (ap (λ (f : Facts). sends_under handle f.turn.doing) (own_facts given station step history)) (λ held. refl)
                  (before in_it handle goes.base goes.was)
                  (whole_at words given history AllUnsent (λ one. packet_received one history) station handle goes.base in_it goes.was (silent handle) (λ listens. none) has.events))
                  (λ other is_too differs. refl) (λ other is_too differs. received_by given other station step history false differs) has.events;
              each = call_each words given station step history has.each
                  (whole_before words given history AllUnsent (λ one. packet_received one history) station step (λ handle held link. refl) silent none has.events);
            };
        on_ended = λ history has. record { controls = kept.on_ended history has.controls; events = has.events; each = has.each };
      }

-- as a run begins no link is open
none_events : (words : Words) (given : Given) → AreEventsSo words given [] AllUnsent (λ station. packet_received station [])
unfolding facts_of
none_events words given = λ station handle link in_it at.
    absurd (open_has (λ one. ⊥) 0 handle (replicate (setup_at given station).links None) link (none_open (λ one. ⊥) (setup_at given station).links) at)

pub events_first : (words : Words) (given : Given) → AreEventsAt words given NoTurn []
events_first words given = record { controls = controls_first words given; events = none_events words given; each = tt }
