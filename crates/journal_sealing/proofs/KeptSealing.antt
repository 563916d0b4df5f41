-- Each step of a run of two stations keeps that the lines give the payload of each open end.
use Rattle.std.proofs.Common.{◌≡◌, ℕ, ◌+◌, ◌==◌, Bool, true, false, Option, Some, None, List, [], ◌∷◌, ◌++◌, length, replicate, refl, sym, ap, subst, ◌∙◌, arith}
use Rattle.std.specs.Prelude.{All, map, take}
use Rattle.std.proofs.lemmas.Bool.{eqb-true, ne_eqb}
use Rattle.ble_base.specs.declared.roles.Side.{Side}
use Rattle.ble_base.specs.declared.verdicts.Verdict.{Verdict}
use Rattle.journal.specs.declared.entries.Entry.{Entry}
use Rattle.journal.specs.declared.entries.Mark.{Mark}
use Rattle.journal_controls.specs.LineSteps.{keyed_on}
use Rattle.journal_controls.specs.controller_model.Facts.{Facts, Sends, Setup}
use Rattle.journal_controls.specs.controller_model.Heard.{has_room, link_heard}
use Rattle.journal_controls.specs.controller_model.Outcome.{notes_passed}
use Rattle.journal_controls.specs.controller_model.Radio.{outcome_begun}
use Rattle.journal_controls.specs.controller_model.Side.{facts_after, facts_of, notes_after}
use Rattle.journal_controls.specs.controller_model.Step.{Step as Call, HostOctet, TurnBegins, TurnEnds}
use Rattle.journal_controls.specs.journal_acks.Carried.{pdu_carried}
use Rattle.journal_controls.specs.journal_acks.run_laws.Ranges.{IsPayload}
use Rattle.journal_controls.specs.journal_acks.Exchange.{exchange_of}
use Rattle.journal_controls.specs.journal_acks.link_calls.Phases.{HasPassed, IsNew, Stays, Takes}
use Rattle.journal_controls.specs.journal_acks.link_calls.Uses.{sends_under}
use Rattle.journal_controls.specs.journal_ends.Asked.{Words}
use Rattle.journal_controls.specs.journal_ends.GivenWords.{GivesWords}
use Rattle.journal_controls.specs.journal_packets.Belonging.{is_side}
use Rattle.journal_controls.specs.link_model.Acknowledgement.{Acknowledgement, is_acked}
use Rattle.journal_controls.specs.link_model.Facts.{Facts as EndFacts, keyed_of}
use Rattle.journal_controls.specs.link_model.Step.{PacketSent}
use Rattle.journal_controls.specs.open_links.OpenLinks.{OpenLink, facts_in, link_after, link_at}
use Rattle.journal_controls.specs.run_model.Entries.{IsAired}
use Rattle.journal_controls.specs.run_model.History.{Event, Hearing, HostFed, Transmitted, TurnBegan, packet_received, steps_in}
use Rattle.journal_controls.specs.run_model.Journal.{journal_of, side_of}
use Rattle.journal_controls.specs.run_model.LinkEnds.{HaveAddresses}
use Rattle.journal_controls.specs.run_model.Links.{is_advertising}
use Rattle.journal_controls.specs.run_model.Run.{Given, Stop, Stops, after_call, after_feed, after_octets, facts_at, hearings_of, history_of, octets_left, run_of, setup_at, step_of, use_at}
use Rattle.journal_acks.proofs.link_calls.CallNotes.{HasNoData, OpensNone, SendsNone, all_more, begin_noted, end_noted, no_data, notes_starting, octet_noted, opening_none, start_noted}
use Rattle.journal_acks.proofs.link_calls.LinkCalls.{begins_under, received_noted, taking_opens, taking_sends}
use Rattle.journal_acks.proofs.link_calls.UnderHandles.{end_under, octet_under}
use Rattle.journal_acks.proofs.run_laws.Agreed.{ack_of, ack_sent, step_facts}
use Rattle.journal_acks.proofs.run_laws.DistinctAccess.{AreApart}
use Rattle.journal_acks.proofs.run_laws.Hearings.{other_facts, own_facts}
use Rattle.journal_acks.proofs.run_laws.InAgreement.{differs_back}
use Rattle.journal_acks.proofs.run_laws.OpenSteps.{none_open, open_has}
use Rattle.journal_controls.proofs.ControlledEnds.{whole}
use Rattle.journal_controls.proofs.KeptControls.{AreControlledAt, controls_first, controls_kept}
use Rattle.journal_controls.proofs.journal_acks.AirCounts.{sender_counted}
use Rattle.journal_controls.proofs.journal_acks.Counting.{facts_event}
use Rattle.journal_controls.proofs.journal_acks.DataCalls.{on_link_notes}
use Rattle.journal_controls.proofs.journal_acks.Exchanging.{number_at, number_called, number_other, number_quiet, number_sent}
use Rattle.journal_controls.proofs.journal_acks.FixedPdus.{sent_out}
use Rattle.journal_controls.proofs.journal_acks.Known.{known_of}
use Rattle.journal_controls.proofs.journal_acks.LinkPackets.{link_packet}
use Rattle.journal_controls.proofs.journal_acks.PassedLinks.{passed_or_new}
use Rattle.journal_controls.proofs.journal_acks.run_laws.Payloads.{payload_out}
use Rattle.journal_controls.proofs.journal_acks.PhaseNotes.{IsOnLink, IsPhaseOf, IsPlainPhase, phase_of}
use Rattle.journal_controls.proofs.journal_acks.Seen.{seen_packet, seen_stop}
use Rattle.journal_controls.proofs.journal_acks.Standing.{phased_at}
use Rattle.journal_controls.proofs.journal_acks.TwoStations.{IsOfTwo, other_is, side_differs}
use Rattle.journal_controls.proofs.journal_acks.Worded.{worded}
use Rattle.journal_controls.proofs.journal_ends.EndsKnown.{lined_at}
use Rattle.journal_controls.proofs.journal_links.OfTwo.{are_distinct}
use Rattle.journal_controls.proofs.journal_packets.AccessOrder.{AreNth}
use Rattle.journal_controls.proofs.journal_packets.SoFar.{IsBelongingSoFar}
use Rattle.journal_controls.proofs.link_model.Hearing.{IsHeardWhole}
use Rattle.journal_controls.proofs.run_model.Calls.{same_station}
use Rattle.journal_controls.proofs.run_model.LinkEnds.{AreTaken, IsUnderstood, received_by}
use Rattle.journal_controls.proofs.run_model.Stations.{among, is_in}
use Rattle.journal_controls.proofs.run_model.Walk.{AtBegins, AtListening, AtPackets, IsKept, NoTurn, Place}
use Rattle.journal_sealing.specs.SealedLines.{HasPayload, SealedLine, sealed_line_of}
use Rattle.journal_sealing.proofs.LedLinks.{IsLed, begun_led, same_led, taken_led}
use Rattle.journal_sealing.proofs.SealedEnds.{IsSealedSo, of_line, own_sealed, sealed_alike, sealed_new}
use Rattle.journal_sealing.proofs.SealedEvents.{IsSendingLast, NoneSends, air_sealed, feed_sealed, sealed_called, sealed_line_at, sealed_other, sending_last, turn_sealed}
use Rattle.journal_sealing.proofs.SealedLines.{forgets}

-- ---- what is kept

abbrev pub AreSealed : Words → Given → List Event → Type 0
AreSealed words given history =
    (station handle : ℕ) (link : OpenLink) → is_in station given.stations ≡ true → link_at handle (facts_at given station history).links ≡ Some link
    → IsSealedSo (sealed_line_at words (number_at station handle history) history (side_of station)) link

pub record AreSealedAt (words : Words) (given : Given) (place : Place) (history : List Event) : Type 0 where
  pub control : AreControlledAt words given place history
  pub sealed : AreSealed words given history

module _ (words : Words) (given : Given) where
  abbrev IsNow : ℕ → List Event → ℕ → OpenLink → Type 0
  IsNow station history handle link = IsSealedSo (sealed_line_at words (number_at station handle history) history (side_of station)) link

  abbrev AreNow : ℕ → List Event → Type 0
  AreNow station history = (handle : ℕ) (link : OpenLink) → link_at handle (facts_at given station history).links ≡ Some link → IsNow station history handle link

  sealed_event : (history : List Event) (event : Event) → ((station : ℕ) → steps_in station event ≡ [])
      → ((number station : ℕ) → sealed_line_at words number (history ++ event ∷ []) (side_of station) ≡ sealed_line_at words number history (side_of station))
      → ((station handle : ℕ) → number_at station handle (history ++ event ∷ []) ≡ number_at station handle history) → AreSealed words given history
      → AreSealed words given (history ++ event ∷ [])
  sealed_event history event none line number are = λ station handle link in_it at.
      subst (λ now. IsSealedSo now link)
      (sym (ap (λ n. sealed_line_at words n (history ++ event ∷ []) (side_of station)) (number station handle) ∙ line (number_at station handle history) station))
      (are station handle link in_it (ap (λ (f : Facts). link_at handle f.links) (sym (facts_event given station history event (none station))) ∙ at))

  sealed_call : IsOfTwo given → (station : ℕ) (step : Call) (history : List Event) → is_in station given.stations ≡ true → AreNow station (after_call given station step history)
      → AreSealed words given history → AreSealed words given (after_call given station step history)
  sealed_call are_two station step history is own are = λ other handle link in_it at. by other handle link in_it at (other == station) refl
    where
      by : (other handle : ℕ) (link : OpenLink) → is_in other given.stations ≡ true → link_at handle (facts_at given other (after_call given station step history)).links ≡ Some link
          → (same : Bool) → (other == station) ≡ same → IsNow other (after_call given station step history) handle link
      by other handle link in_it at true one =
          let equal = eqb-true other station one in
          let next = after_call given station step history in
          subst (λ n. IsNow n next handle link) (sym equal) (own handle link (subst (λ n. link_at handle (facts_at given n next).links ≡ Some link) equal at))
      by other handle link in_it at false differs =
          let next = after_call given station step history in
          let equal = other_is given are_two other station in_it is (differs_back other station differs) in
          let apart : is_side (side_of station) (side_of other) ≡ false = subst (λ n. is_side (side_of n) (side_of other) ≡ false) (sym equal) (side_differs other) in
          subst (λ now. IsSealedSo now link)
          (sym (ap (λ n. sealed_line_at words n next (side_of other)) (number_other given station step history other handle differs)
          ∙ sealed_other words given (number_at other handle history) station step history (side_of other) apart))
          (are other handle link in_it (ap (λ (f : Facts). link_at handle f.links) (sym (other_facts given station step history other differs)) ∙ at))

  -- a call in which no new PDU is sent, to a link that sent the same before
  alike_own : (station : ℕ) (step : Call) (history : List Event) (handle : ℕ) (line : Option SealedLine) (link : OpenLink)
      → All HasNoData (notes_after (setup_at given station) (facts_at given station history) step)
      → number_at station handle (after_call given station step history) ≡ number_at station handle history
      → line ≡ sealed_line_at words (number_at station handle history) history (side_of station) → IsSealedSo line link
      → IsNow station (after_call given station step history) handle link
  alike_own station step history handle line link none number is sealed =
      subst (λ now. IsSealedSo now link)
      (is ∙ sym (ap (λ n. sealed_line_at words n (after_call given station step history) (side_of station)) number
      ∙ sealed_called words given (number_at station handle history) station step history (side_of station) (all_more HasNoData SendsNone (λ note has. has.sends) _ none)))
      sealed

  held_at : (station : ℕ) (step : Call) (history : List Event) (handle : ℕ) (link : OpenLink)
      → link_at handle (facts_at given station (after_call given station step history)).links ≡ Some link
      → link_at handle (facts_after (setup_at given station) (facts_at given station history) step).links ≡ Some link
  held_at station step history handle link at = ap (λ (f : Facts). link_at handle f.links) (sym (own_facts given station step history)) ∙ at

  octet_sealed : IsOfTwo given → (station octet : ℕ) (history : List Event) → is_in station given.stations ≡ true → AreSealed words given history
      → AreSealed words given (after_call given station (HostOctet octet) history)
  octet_sealed are_two station octet history is are = sealed_call are_two station (HostOctet octet) history is (λ handle link at.
      let setup = setup_at given station in
      let facts = facts_at given station history in
      let was = octet_under setup facts octet handle link (held_at station (HostOctet octet) history handle link at) in
      let line = sealed_line_at words (number_at station handle history) history (side_of station) in
      alike_own station (HostOctet octet) history handle line link (octet_noted HasNoData no_data.feeds setup facts octet)
      (number_called given station (HostOctet octet) history handle (octet_noted (OpensNone handle) (opening_none handle).starts.feeds setup facts octet)) refl
      (sealed_alike line was.link link was.more was.setup was.past was.ack (are station handle was.link is was.was))) are

  octets_sealed : IsOfTwo given → (station : ℕ) (octets : List ℕ) (history : List Event) → is_in station given.stations ≡ true → AreSealed words given history
      → AreSealed words given (after_octets given station octets history)
  octets_sealed are_two station [] history is are = are
  octets_sealed are_two station (octet ∷ octets) history is are =
      octets_sealed are_two station octets (after_call given station (HostOctet octet) history) is (octet_sealed are_two station octet history is are)

  fed_sealed : IsOfTwo given → (station : ℕ) (octets : List ℕ) (history : List Event) → is_in station given.stations ≡ true → AreSealed words given history
      → AreSealed words given (after_feed given station octets history)
  fed_sealed are_two station [] history is are = are
  fed_sealed are_two station (octet ∷ octets) history is are =
      octets_sealed are_two station (octet ∷ octets) (history ++ HostFed station (octet ∷ octets) ∷ []) is
      (sealed_event history (HostFed station (octet ∷ octets)) (λ one. refl) (λ number one. feed_sealed words number history station (octet ∷ octets) (side_of one))
      (λ one handle. number_quiet one handle history (HostFed station (octet ∷ octets)) (λ links. refl)) are)

  -- a phase notes a new PDU last
  phase_last : (setup : Setup) (facts : Facts) (received : Option (List ℕ)) → IsPhaseOf setup facts received → IsSendingLast (notes_after setup facts (step_of received))
  phase_last setup facts received (IsPlainPhase none plain) = NoneSends (all_more HasNoData SendsNone (λ note has. has.sends) _ plain)
  phase_last setup facts received (IsOnLink other words octets some listens heard_is) =
      let heard = worded words setup other facts in
      let outcome = link_heard setup other octets heard in
      sending_last outcome.next outcome.facts (notes_after setup facts (step_of received)) outcome.notes
      (on_link_notes setup facts received octets outcome some (ap notes_passed heard_is)) (received_noted SendsNone taking_sends setup other octets heard)
      (λ one. received_noted (OpensNone one) (taking_opens one) setup other octets heard)

module _ (words : Words) (heard_whole : IsHeardWhole) (understood : IsUnderstood) (taken : AreTaken) (nth : AreNth) (apart : AreApart) (given : Given) (are_two : IsOfTwo given)
    (six : HaveAddresses given) (gives : GivesWords given words) where
  -- a station whose call it was has heard nothing since
  keyed_now : (place : Place) (station : ℕ) (step : Call) (history : List Event) → is_in station given.stations ≡ true
      → AreControlledAt words given place (after_call given station step history) → (handle : ℕ) (link : OpenLink)
      → link_at handle (facts_at given station (after_call given station step history)).links ≡ Some link
      → keyed_on words (side_of station) (number_at station handle (after_call given station step history)) (journal_of (after_call given station step history))
      ≡ Some (keyed_of (facts_in link))
  keyed_now place station step history in_it next handle link at =
      let after = after_call given station step history in
      whole words (packet_received station after) handle (facts_at given station after).turn link (number_at station handle after) (side_of station) after
      (λ on. received_by given station station step history true (same_station station)) (next.control station handle link in_it at)

  -- what a link does in a call of a turn
  led_own : (here place : Place) (station : ℕ) (step : Call) (history : List Event) → is_in station given.stations ≡ true → AreSealedAt words given here history
      → AreControlledAt words given place (after_call given station step history)
      → IsSendingLast (notes_after (setup_at given station) (facts_at given station history) step) → (handle : ℕ) (base link : OpenLink) → IsLed base link
      → link_at handle (facts_at given station history).links ≡ Some base → link_at handle (facts_at given station (after_call given station step history)).links ≡ Some link
      → number_at station handle (after_call given station step history) ≡ number_at station handle history
      → IsNow words given station (after_call given station step history) handle link
  led_own here place station step history in_it has next last handle base link led was at number =
      own_sealed words given station step history handle base link led last number
      (lined_at understood taken given are_two six here history has.control.seen.known station handle base in_it was)
      (lined_at understood taken given are_two six place (after_call given station step history) next.seen.known station handle link in_it at)
      (keyed_now place station step history in_it next handle link at)
      (has.control.lined.lines station handle base in_it was) (has.sealed station handle base in_it was)

  -- a phase passes
  module _ (phases : ℕ) (done left : List ℕ) (station : ℕ) (history : List Event) (are : given.stations ≡ done ++ station ∷ left)
      (has : AreSealedAt words given (AtListening phases done (station ∷ left)) history)
      (next : AreControlledAt words given (AtListening phases (done ++ station ∷ []) left) (after_call given station (step_of (packet_received station history)) history)) where
    abbrev received : Option (List ℕ)
    received = packet_received station history

    abbrev after : List Event
    after = after_call given station (step_of received) history

    abbrev setup : Setup
    setup = setup_at given station

    abbrev facts : Facts
    facts = facts_at given station history

    in_it : is_in station given.stations ≡ true
    in_it = among given.stations done left station are

    fresh : (handle : ℕ) (link : OpenLink) → link_at handle (facts_at given station after).links ≡ Some link → link.past ≡ [] → IsNow words given station after handle link
    fresh handle link at none =
        sealed_new words (number_at station handle after) (journal_of after) (side_of station) link none (next.lined.lines station handle link in_it at)

    led_then : (handle : ℕ) (base link : OpenLink) → IsLed base link → link_at handle facts.links ≡ Some base → link_at handle (facts_at given station after).links ≡ Some link
        → number_at station handle after ≡ number_at station handle history → IsNow words given station after handle link
    led_then handle base link led was at number =
        led_own (AtListening phases done (station ∷ left)) (AtListening phases (done ++ station ∷ []) left) station (step_of received) history in_it has next
        (phase_last words given setup facts received (phase_of setup facts received)) handle base link led was at number

    passed : (handle : ℕ) (link : OpenLink) → link_at handle (facts_at given station after).links ≡ Some link → number_at station handle after ≡ number_at station handle history
        → HasPassed setup facts (has_room setup facts) received handle (facts_after setup facts (step_of received)).turn.doing link → IsNow words given station after handle link
    passed handle link at number (IsNew end made opened off) = fresh handle link at (ap (λ (l : OpenLink). l.past) made)
    passed handle link at number (Stays was none nothing listened) = led_then handle link link (same_led link) was at number
    passed handle link at number (Takes base octets was some on same) =
        led_then handle base link
        (taken_led (sends_under handle (facts_after setup facts (step_of received)).turn.doing) setup handle (has_room setup facts) octets facts base link same) was at number

    passes_own : AreNow words given station after
    passes_own handle link at =
        let phased = phased_at given (AtListening phases done (station ∷ left)) history has.control.seen.holds.hearing.stand station in_it in
        passed_or_new given station history phased.uses.in_turn.listens (IsNow words given station after handle link) handle link at (passed handle link at)
        (λ new. fresh handle link at new.past)

  -- ---- each step

  pub sealing_kept : IsKept given (AreSealedAt words given)
  sealing_kept = let kept = controls_kept words heard_whole understood taken nth apart given are_two six gives in record {
    on_turn = λ slot plan history begun at has.
        let event = TurnBegan slot (map plan.radio_of given.stations) in record {
          control = kept.on_turn slot plan history begun at has.control;
          sealed = sealed_event words given history event (λ one. refl) (λ number one. turn_sealed words number history slot (map plan.radio_of given.stations) (side_of one))
              (λ one handle. number_quiet one handle history event (λ links. refl)) has.sealed;
        };
    on_feed = λ plan done left station history are some now has. record {
      control = kept.on_feed plan done left station history are some now has.control;
      sealed = fed_sealed words given are_two station (take (plan.feed_of station) (octets_left given station history)) history (among given.stations done left station are) has.sealed;
    };
    on_fed = λ history has. record { control = kept.on_fed history has.control; sealed = has.sealed };
    on_begin = λ slot plan done left station history are due has.
        let on = plan.radio_of station in
        let step = TurnBegins slot on in
        let in_it = among given.stations done left station are in
        let setup = setup_at given station in
        let facts = facts_at given station history in
        let outcome = outcome_begun slot on facts in
        let start = notes_starting slot facts in
        let next = kept.on_begin slot plan done left station history are due has.control in record {
          control = next;
          sealed = sealed_call words given are_two station step history in_it
              (λ handle link at.
              let begun = begins_under setup facts slot on handle link (held_at words given station step history handle link at) in
              led_own (AtBegins done (station ∷ left)) (AtBegins (done ++ station ∷ []) left) station step history in_it has next
              (sending_last outcome.next outcome.facts (notes_after setup facts step) start refl
              (all_more HasNoData SendsNone (λ note has_none. has_none.sends) start (start_noted HasNoData no_data slot facts))
              (λ one. start_noted (OpensNone one) (opening_none one).starts slot facts))
              handle begun.link link (begun_led facts slot on handle (facts_after setup facts step).turn.doing link begun) begun.was at
              (number_called given station step history handle (begin_noted (OpensNone handle) (opening_none handle) setup slot on facts))) has.sealed;
        };
    on_begun = λ history has. record { control = kept.on_begun history has.control; sealed = has.sealed };
    on_phase = λ phases history few has. record { control = kept.on_phase phases history few has.control; sealed = has.sealed };
    on_silence = λ phases done left station history are none has. record { control = kept.on_silence phases done left station history are none has.control; sealed = has.sealed };
    on_packet = λ phases plan done left station channel octets history are some due has.
        let hearings = hearings_of given plan.fates station channel octets history in record {
          control = kept.on_packet phases plan done left station channel octets history are some due has.control;
          sealed = sealed_event words given history (Transmitted station channel octets hearings) (λ one. refl)
              (λ number one. air_sealed words number history station channel octets hearings (side_of one))
              (λ one handle. number_sent one handle history station channel octets hearings) has.sealed;
        };
    on_air = λ phases history has. record { control = kept.on_air phases history has.control; sealed = has.sealed };
    on_hearing = λ phases done left station history are some has.
        let next = kept.on_hearing phases done left station history are some has.control in record {
          control = next;
          sealed = sealed_call words given are_two station (step_of (packet_received station history)) history (among given.stations done left station are)
              (passes_own phases done left station history are has next) has.sealed;
        };
    on_heard = λ phases history has. record { control = kept.on_heard phases history has.control; sealed = has.sealed };
    on_phases = λ history has. record { control = kept.on_phases history has.control; sealed = has.sealed };
    on_end = λ done left station history are some has.
        let in_it = among given.stations done left station are in
        let setup = setup_at given station in
        let facts = facts_at given station history in record {
          control = kept.on_end done left station history are some has.control;
          sealed = sealed_call words given are_two station TurnEnds history in_it
              (λ handle link at.
              let was = end_under setup facts handle link (held_at words given station TurnEnds history handle link at) in
              let line = sealed_line_at words (number_at station handle history) history (side_of station) in
              alike_own words given station TurnEnds history handle line link (end_noted HasNoData no_data.feeds setup facts)
              (number_called given station TurnEnds history handle (end_noted (OpensNone handle) (opening_none handle).starts.feeds setup facts)) refl
              (sealed_alike line was.link link was.more was.setup was.past was.ack (has.sealed station handle was.link in_it was.was))) has.sealed;
        };
    on_ended = λ history has. record { control = kept.on_ended history has.control; sealed = has.sealed };
  }

-- as a run begins no link is open
none_sealed : (words : Words) (given : Given) → AreSealed words given []
unfolding facts_of
none_sealed words given = λ station handle link in_it at.
    absurd (open_has (λ one. ⊥) 0 handle (replicate (setup_at given station).links None) link (none_open (λ one. ⊥) (setup_at given station).links) at)

sealing_first : (words : Words) (given : Given) → AreSealedAt words given NoTurn []
sealing_first words given = record { control = controls_first words given; sealed = none_sealed words given }

-- ---- so each packet has the payload of the lines

abbrev HavePayload : Words → List Event → ℕ → ℕ → List ℕ → Type 0
HavePayload words history station channel octets = is_advertising channel ≡ false → HasPayload words (journal_of history) (side_of station) channel octets

one_more_out : (ack : Acknowledgement) (acked : ℕ) → acked ≡ ack.acked → acked + 1 ≡ length ack.sent → is_acked ack ≡ false
one_more_out ack acked same count = ne_eqb ack.acked (length ack.sent) (λ all. omega (arith, same, count, all))

module _ (words : Words) (heard_whole : IsHeardWhole) (understood : IsUnderstood) (taken : AreTaken) (nth : AreNth) (apart : AreApart) (given : Given) (are_two : IsOfTwo given)
    (six : HaveAddresses given) (gives : GivesWords given words) where
  has_payload : (phases : ℕ) (done left : List ℕ) (station channel : ℕ) (octets : List ℕ) (history : List Event) → given.stations ≡ done ++ station ∷ left
      → use_at given station history ≡ Sends channel octets → AreSealedAt words given (AtPackets phases done (station ∷ left)) history → HavePayload words history station channel octets
  has_payload phases done left station channel octets history are wanted has off =
      let Q = IsBelongingSoFar given in
      let known = known_of understood taken nth apart given are_two six in
      let distinct = are_distinct given are_two in
      let lined = has.control.lined in
      let counts = lined.counts in
      let in_it = among given.stations done left station are in
      let side = side_of station in
      let journal = journal_of history in
      let from = known.sends phases done left station history are counts.known channel octets wanted off in
      let is = link_packet heard_whole given Q known are_two six distinct phases done left station channel octets history are wanted lined off in
      let sender = link_after (PacketSent from.slot) from.link in
      let number = is.packet.number in
      let acked = (exchange_of number journal side).acked in
      let counted = sender_counted heard_whole given Q known are_two six distinct phases done left station channel octets [] history are wanted counts.known counts.holds counts.counted off in
      let same : acked ≡ (ack_of sender).acked = ap (λ n. (exchange_of n journal side).acked) is.number_is ∙ counted.acked in
      let count : acked + 1 ≡ length (ack_of sender).sent =
      ap (λ n. n + 1) (same ∙ ap (λ (a : Acknowledgement). a.acked) (ack_sent from.slot from.link)) ∙ sent_out from.link
      ∙ ap (λ (a : Acknowledgement). length a.sent) (sym (ack_sent from.slot from.link)) in
      let sealed = subst (λ n. IsSealedSo (sealed_line_of words n journal side) sender) (sym is.number_is) (has.sealed station from.handle sender in_it from.is_open) in
      let payload : is.packet.payload ≡ (facts_in sender).outgoing.payload =
      is.payload_is ∙ sym (payload_out from.link.setup (facts_in from.link) from.slot)
      ∙ sym (ap (λ (f : EndFacts). f.outgoing.payload) (step_facts from.link (PacketSent from.slot))) in record {
        packet = is.packet;
        payload_is = of_line (sealed_line_of words number journal side) acked is.packet.payload
            (subst (λ line. IsPayload (pdu_carried line acked) is.packet.payload) (sym (forgets words number side journal)) is.packet.is_payload)
            (λ one line_is equal. payload ∙ sealed one line_is (ap (λ n. n + 1) equal ∙ count) (one_more_out (ack_of sender) acked same count));
      }

  payload_of_lines : (before rest : List Event) (station channel : ℕ) (octets : List ℕ) (hearings : List Hearing)
      → history_of (run_of given) ≡ before ++ Transmitted station channel octets hearings ∷ rest → is_advertising channel ≡ false
      → HasPayload words (journal_of before) (side_of station) channel octets
  payload_of_lines before rest station channel octets hearings at =
      seen_packet given (AreSealedAt words given) (sealing_kept words heard_whole understood taken nth apart given are_two six gives) (λ history. Unit {0}) (HavePayload words)
      (record { turn = λ history has. tt; packet = has_payload }) (sealing_first words given) before rest station channel octets hearings at

  -- also the one at which a run stops
  pub payload_at_stop : (history : List Event) (stop : Stop) → run_of given ≡ Stops history stop → HavePayload words history stop.sender stop.channel stop.sent
  payload_at_stop history stop stops =
      seen_stop given (AreSealedAt words given) (sealing_kept words heard_whole understood taken nth apart given are_two six gives) (λ history. Unit {0}) (HavePayload words)
      (record { turn = λ history has. tt; packet = has_payload }) (sealing_first words given) history stop stops

  pub payload_of_aired : (front : List Entry) (side : Side) (channel : ℕ) (octets : List ℕ) (fate : Mark) (verdict : Verdict)
      → IsAired given front side channel octets fate verdict → is_advertising channel ≡ false → HasPayload words front side channel octets
  payload_of_aired front side channel octets fate verdict aired off =
      let seen = payload_of_lines aired.before aired.after aired.station channel octets (aired.hearing ∷ aired.others) aired.is_at off in
      subst (λ xs. HasPayload words xs side channel octets) (sym aired.front_is)
      (subst (λ s. HasPayload words (journal_of aired.before) s channel octets) (sym aired.side_is) seen)
