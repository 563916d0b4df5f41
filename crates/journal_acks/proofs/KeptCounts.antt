-- Each step of a run of a pair keeps what the counts of its journal are, end by end.
use Rattle.std.proofs.Common.{◌≡◌, ℕ, suc, ◌+◌, ◌-◌, ◌<◌, ◌==◌, inl, inr, Bool, true, false, not, Option, Some, None, List, [], ◌∷◌, ◌++◌, length, refl, sym, ap, subst, ◌∙◌, append_assoc, arith}
use Rattle.std.specs.Prelude.{All, map, take, if◌then◌else◌}
use Rattle.std.proofs.lemmas.Bool.{eqb-true, false_from_ne_true}
use Rattle.std.proofs.lemmas.List.Elements.{All-append, All-nil}
use Rattle.ble_base.specs.Side.{other_side}
use Rattle.ble_base.specs.declared.notes.Note.{Note}
use Rattle.ble_base.specs.declared.notes.Note.TheVariants.{Took}
use Rattle.ble_base.specs.declared.roles.Side.{Side}
use Rattle.journal_packets.specs.controller_model.host_view.Links.{was_encrypted}
use Rattle.journal_packets.proofs.link_model.Hearing.{IsHeardWhole}
use Rattle.journal_packets.specs.link_model.Acknowledgement.{Acknowledgement}
use Rattle.journal_packets.specs.link_model.Setup.{Setup as EndSetup}
use Rattle.journal_packets.specs.link_model.Step.{PacketReceived, PacketSent}
use Rattle.journal_packets.specs.open_links.OpenLinks.{OpenLink, link_after, link_at}
use Rattle.journal_packets.proofs.open_links.Handles.{handle_is}
use Rattle.journal_packets.specs.controller_model.declared.doing.Doing.TheVariants.{Rests}
use Rattle.journal_packets.specs.controller_model.declared.doing.Turn.{Turn}
use Rattle.journal_packets.specs.controller_model.Step.{Step, HostOctet, TurnBegins, TurnEnds}
use Rattle.journal_packets.specs.controller_model.Facts.{Setup, Facts, Sends}
use Rattle.journal_packets.specs.controller_model.Events.{notes_of_events}
use Rattle.journal_packets.specs.controller_model.Heard.{events_received, has_room, heard as phase_heard, link_heard, link_received, notes_taken, replies_in, reply_if}
use Rattle.journal_packets.specs.controller_model.Outcome.{facts_passed, notes_passed}
use Rattle.journal_packets.specs.controller_model.Packets.{notes_doing}
use Rattle.journal_packets.proofs.controller_model.Places.{link_receiving}
use Rattle.journal_packets.specs.controller_model.Side.{facts_after, notes_after}
use Rattle.radio_replay.specs.declared.fates.Fate.{Fate}
use Rattle.link_calls.specs.run_model.Due.{packet_in}
use Rattle.link_calls.specs.run_model.Feeding.{AreDistinct}
use Rattle.link_calls.specs.run_model.History.{Event, TurnBegan, HostFed, Transmitted, packet_received, turns_begun}
use Rattle.link_calls.specs.run_model.Journal.{side_of}
use Rattle.link_calls.specs.run_model.LinkEnds.{HaveAddresses}
use Rattle.link_calls.specs.run_model.Links.{is_advertising}
use Rattle.link_calls.specs.run_model.Run.{Given, after_call, after_feed, after_octets, facts_at, hearings_of, octets_left, setup_at, step_of, use_at}
use Rattle.link_calls.proofs.run_model.Calls.{same_station, turns_called}
use Rattle.link_calls.proofs.run_model.LinkEnds.{received_by, received_event, received_own, wanted_is}
use Rattle.link_calls.proofs.run_model.Stations.{is_in, among, in_more_other, in_more_same, not_before}
use Rattle.link_calls.proofs.run_model.Walk.{Place, NoTurn, AtFeeds, AtBegins, AfterPhases, AtPackets, AtListening, AtEnds, IsKept}
use Rattle.journal_packets.proofs.run_laws.Agreed.{ack_of}
use Rattle.journal_packets.proofs.run_laws.ByCalls.{Holds, holds_kept}
use Rattle.journal_packets.proofs.run_laws.Hearings.{own_facts, use_sent_at}
use Rattle.journal_packets.proofs.run_laws.Entering.{IsInTurn}
use Rattle.journal_packets.proofs.run_laws.InAgreement.{AreStations, IsStation, OpenedBefore, differs_back, stations_kept}
use Rattle.journal_packets.proofs.run_laws.LinkPasses.{is_on_link}
use Rattle.journal_packets.proofs.run_laws.OpenSteps.{open_has}
use Rattle.journal_packets.proofs.run_laws.SentPackets.{IsUseSent}
use Rattle.journal_packets.proofs.run_laws.TurnPlaces.{Between, Within, at_stage}
use Rattle.journal_packets.proofs.run_laws.TurnSteps.{octet_turn, phase_turn}
use Rattle.journal_packets.specs.Senders.{IsOfSendersLink}
use Rattle.journal_acks.specs.Counted.{IsCounted}
use Rattle.journal_acks.specs.Exchange.{Exchanged, after_taking, with_taken}
use Rattle.journal_acks.proofs.Acks.{link_sends}
use Rattle.journal_acks.proofs.AirCounts.{advertises, any_sending, first_aired, packet_counted, packet_to_take}
use Rattle.link_calls.proofs.CallNotes.{HasNoData, TakesNone, all_more, begin_noted, doing_noted, end_noted, events_noted, no_data, none_taken, octet_noted}
use Rattle.journal_acks.proofs.Counting.{AreCountedSo, AreKnown, AreToTake, IsEndCounted, ahead_if, alike_counted, apart_numbers, counted_call, counted_event, counted_same, from_plain, from_sent, moved, none_to_take, plain, take_call, ack_taking}
use Rattle.journal_acks.proofs.DataCalls.{begin_call, on_link_facts, on_link_notes, phase_call, taken_at, unfound}
use Rattle.link_calls.proofs.CallNotes.{OpensNone, opening_none}
use Rattle.journal_acks.proofs.Exchanging.{exchange_at, exchange_called, exchange_took, feed_quiet, number_at, number_called, number_quiet, turn_quiet}
use Rattle.journal_acks.proofs.FirstCounts.{AreFirst, IsCallOf, IsFirst, OfNone, first_called, first_event, first_event_at, first_of}
use Rattle.link_calls.specs.Phases.{HasPassed, IsNew, Stays, Takes}
use Rattle.link_calls.proofs.LinkCalls.{base_ack, begins_under}
use Rattle.link_calls.specs.Uses.{listens_under, sends_under}
use Rattle.journal_acks.proofs.PassedLinks.{passed_or_new}
use Rattle.journal_acks.proofs.PhaseNotes.{IsOnLink, IsPhaseOf, IsPlainPhase, IsTakenSo, Noted, Unnoted, phase_of, same_but, taken_so}
use Rattle.journal_acks.proofs.SentLines.{air_line, feed_line, turn_line}
use Rattle.journal_acks.proofs.Standing.{PhasedBy, fresh_counted, last_phase, phased_at, sending_on_link, silent_sends}
use Rattle.journal_acks.proofs.TwoStations.{IsOfTwo, air_quiet, hearing_of, one_hearing, other_is, side_same}
use Rattle.link_calls.proofs.UnderHandles.{end_under, octet_under}
use Rattle.link_calls.specs.Turns.{sent_if}
use Rattle.journal_acks.proofs.Worded.{link_worded, received_ack_is, worded, worded_ack, worded_heard, worded_here, worded_setup, worded_taking}

-- a station still has to transmit what it wants to
abbrev pub unsent : Place → ℕ → Bool
unsent (AtPackets phases done left) station = not (is_in station done)
unsent (AtListening phases done left) station = is_in station done
unsent NoTurn station = true
unsent (AtFeeds done left) station = true
unsent (AtBegins done left) station = true
unsent (AfterPhases phases) station = true
unsent (AtEnds done left) station = true

-- nothing is heard of a station that did not transmit yet
abbrev pub IsSilent : Given → Place → List Event → Type 0
IsSilent given (AtPackets phases done left) history =
    (other sender : ℕ) → is_in other given.stations ≡ true → is_in sender given.stations ≡ true → (other == sender) ≡ false → is_in sender done ≡ false
    → packet_received other history ≡ None
IsSilent given place history = Unit {0}

-- what was on the air is still to be taken
abbrev pub IsTakenAt : Given → Place → List Event → Type 0
IsTakenAt given (AtPackets phases done left) history = AreToTake given history
IsTakenAt given (AtListening phases done left) history = AreToTake given history
IsTakenAt given place history = Unit {0}

pub record AreCountedAt (given : Given) (Q : Place → List Event → Type 0) (place : Place) (history : List Event) : Type 0 where
  pub known : Q place history
  pub holds : Holds given (AreStations given) place history
  pub first : AreFirst history
  pub silent : IsSilent given place history
  pub to_take : IsTakenAt given place history
  pub counted : AreCountedSo given history (unsent place) (λ station. packet_received station history)

-- ---- small steps

-- an end that sends, or does not
sent_counted : (sends : Bool) (slot : ℕ) (base : OpenLink) (end : Exchanged) → IsCounted end (ack_of base) → IsCounted (ahead_if sends end) (ack_of (sent_if sends slot base))
sent_counted true slot base end is = link_sends slot base end is
sent_counted false slot base end is = is

-- an end whose packet was on the air, and that has none to take
was_plain : (received : Option (List ℕ)) (handle : ℕ) (turn : Turn) (link : OpenLink) (end : Exchanged) → (listens_under handle turn.doing ≡ true → received ≡ None)
    → IsEndCounted false received handle turn link end → IsCounted end (ack_of link)
was_plain received handle turn link end nothing is = by (listens_under handle turn.doing) received nothing is
  where
    by : (listens : Bool) (received : Option (List ℕ)) → (listens ≡ true → received ≡ None) → IsCounted end (ack_taking listens received turn.slot link) → IsCounted end (ack_of link)
    by true None none counted = counted
    by true (Some octets) none counted = absurd (let h : Some octets ≡ None = none refl in absurd cc)
    by false received none counted = counted

-- and that takes one, before a line says so
pub was_taking : (received : Option (List ℕ)) (octets : List ℕ) (handle : ℕ) (turn : Turn) (link : OpenLink) (end : Exchanged) → listens_under handle turn.doing ≡ true → received ≡ Some octets
    → IsEndCounted false received handle turn link end → IsCounted end (ack_taking true (Some octets) turn.slot link)
was_taking received octets handle turn link end on some is =
    subst (λ may. IsCounted end (ack_taking true may turn.slot link)) some
    (subst (λ b. IsCounted end (ack_taking b received turn.slot link)) on is)

-- a PDU that is noted is one more that is accepted
noted_counted : (slot : ℕ) (octets : List ℕ) (room : Bool) (link : OpenLink) (end from : Exchanged)
    → from.sent ≡ length (ack_of (link_after (PacketReceived slot octets room) link)).accepted
    → IsCounted end (ack_taking true (Some octets) slot link) → IsCounted (with_taken from end) (ack_of (link_after (PacketReceived slot octets room) link))
noted_counted slot octets room link end from sent is =
    let but = same_but slot octets room false link in
    record { sent = is.sent ∙ ap length (sym but.sent); accepted = sent; acked = is.acked ∙ sym but.acked }

not_in_more : (one : ℕ) (done : List ℕ) (station : ℕ) → is_in one (done ++ station ∷ []) ≡ false → (same : Bool) → (one == station) ≡ same → is_in one done ≡ false
not_in_more one done station out true is = absurd (let h : true ≡ false = sym (in_more_same one station done is) ∙ out in absurd cc)
not_in_more one done station out false is = sym (in_more_other one station done is) ∙ out

rests_none : (facts : Facts) (handle : ℕ) → facts.turn.doing ≡ Rests → sends_under handle facts.turn.doing ≡ false
rests_none facts handle is = ap (sends_under handle) is

-- ---- a host sends

module _ (given : Given) (are_two : IsOfTwo given) where
  -- what is kept while a turn feeds its stations
  record IsFed (history : List Event) : Type 0 where
    first : AreFirst history
    counted : AreCountedSo given history (λ station. true) (λ station. None)

  octet_fed : (station octet : ℕ) (history : List Event) → is_in station given.stations ≡ true → IsFed history → IsFed (after_call given station (HostOctet octet) history)
  octet_fed station octet history is fed = record {
    first = first_called given station (HostOctet octet) history
        (OfNone (octet_noted HasNoData no_data.feeds (setup_at given station) (facts_at given station history) octet)) fed.first;
    counted = counted_call given are_two station (HostOctet octet) history (λ one. true) (λ one. true) (λ one. None) (λ one. None) is
        (λ handle link at.
        let facts = facts_at given station history in
        let setup = setup_at given station in
        let after = after_call given station (HostOctet octet) history in
        let same = own_facts given station (HostOctet octet) history in
        let was = octet_under setup facts octet handle link (ap (λ (f : Facts). link_at handle f.links) (sym same) ∙ at) in
        let number = number_at station handle history in
        moved handle link true true None None facts.turn (facts_at given station after).turn
        (exchange_at number history (side_of station))
        (exchange_at (number_at station handle after) after (side_of station)) refl refl
        (ap (λ (f : Facts). f.turn) same ∙ (octet_turn setup facts octet).turn)
        (ap (λ n. exchange_at n after (side_of station)) (number_called given station (HostOctet octet) history handle (octet_noted (OpensNone handle) (opening_none handle).starts.feeds setup facts octet))
        ∙ ap (λ (ends : Side → Exchanged). ends (side_of station))
        (exchange_called given number station (HostOctet octet) history (octet_noted TakesNone none_taken.starts.feeds setup facts octet)))
        (alike_counted true handle facts.turn was.link link (exchange_at number history (side_of station)) was.ack (fed.counted station handle was.link is was.was)))
        (λ other in_it differs. refl) (λ other in_it differs. refl) fed.counted;
  }

  octets_fed : (station : ℕ) (octets : List ℕ) (history : List Event) → is_in station given.stations ≡ true → IsFed history → IsFed (after_octets given station octets history)
  octets_fed station [] history is fed = fed
  octets_fed station (octet ∷ octets) history is fed =
      octets_fed station octets (after_call given station (HostOctet octet) history) is (octet_fed station octet history is fed)

  feed_fed : (station : ℕ) (octets : List ℕ) (history : List Event) → is_in station given.stations ≡ true → IsFed history → IsFed (after_feed given station octets history)
  feed_fed station [] history is fed = fed
  feed_fed station (octet ∷ octets) history is fed =
      octets_fed station (octet ∷ octets) (history ++ HostFed station (octet ∷ octets) ∷ []) is (record {
        first = first_event history (HostFed station (octet ∷ octets)) (λ number. record {
          exchange = feed_quiet number history station (octet ∷ octets);
          lines = feed_line number history station (octet ∷ octets);
        }) fed.first;
        counted = counted_event given history (HostFed station (octet ∷ octets)) (λ one. true) (λ one. None) (λ one. refl)
            (λ number. feed_quiet number history station (octet ∷ octets))
            (λ one handle. number_quiet one handle history (HostFed station (octet ∷ octets)) (λ links. refl)) fed.counted;
      })

-- ---- a call in a turn

module _ (given : Given) (station : ℕ) (step : Step) (history : List Event) (handle : ℕ) (link : OpenLink)
    (at : link_at handle (facts_at given station (after_call given station step history)).links ≡ Some link) where
  -- the link, in what the controller holds after the call
  pub own_at : link_at handle (facts_after (setup_at given station) (facts_at given station history) step).links ≡ Some link
  own_at = ap (λ (f : Facts). link_at handle f.links) (sym (own_facts given station step history)) ∙ at

  -- its counts, by those of the journal before, where the call leaves those
  pub own_moved : (received : Option (List ℕ))
      → exchange_at (number_at station handle history) (after_call given station step history) (side_of station) ≡ exchange_at (number_at station handle history) history (side_of station)
      → number_at station handle (after_call given station step history) ≡ number_at station handle history
      → IsEndCounted true received handle (facts_after (setup_at given station) (facts_at given station history) step).turn link (exchange_at (number_at station handle history) history (side_of station))
      → IsEndCounted true received handle (facts_at given station (after_call given station step history)).turn link
      (exchange_at (number_at station handle (after_call given station step history)) (after_call given station step history) (side_of station))
  own_moved received exchange number is =
      let after = after_call given station step history in
      moved handle link true true received received (facts_after (setup_at given station) (facts_at given station history) step).turn
      (facts_at given station after).turn (exchange_at (number_at station handle history) history (side_of station))
      (exchange_at (number_at station handle after) after (side_of station)) refl refl
      (ap (λ (f : Facts). f.turn) (own_facts given station step history))
      (ap (λ n. exchange_at n after (side_of station)) number ∙ exchange) is

  -- where no PDU is taken
  pub own_quiet : (received : Option (List ℕ)) → All TakesNone (notes_after (setup_at given station) (facts_at given station history) step)
      → number_at station handle (after_call given station step history) ≡ number_at station handle history
      → IsEndCounted true received handle (facts_after (setup_at given station) (facts_at given station history) step).turn link (exchange_at (number_at station handle history) history (side_of station))
      → IsEndCounted true received handle (facts_at given station (after_call given station step history)).turn link
      (exchange_at (number_at station handle (after_call given station step history)) (after_call given station step history) (side_of station))
  own_quiet received none number is =
      own_moved received (ap (λ (ends : Side → Exchanged). ends (side_of station)) (exchange_called given (number_at station handle history) station step history none)) number is

begin_own : (given : Given) (station slot : ℕ) (on : Bool) (history : List Event) → is_in station given.stations ≡ true → (facts_at given station history).turn.doing ≡ Rests
    → (received : Option (List ℕ)) → AreCountedSo given history (λ one. true) (λ one. packet_received one history)
    → (handle : ℕ) (link : OpenLink) → link_at handle (facts_at given station (after_call given station (TurnBegins slot on) history)).links ≡ Some link
    → received ≡ None → IsEndCounted true received handle (facts_at given station (after_call given station (TurnBegins slot on) history)).turn link
    (exchange_at (number_at station handle (after_call given station (TurnBegins slot on) history)) (after_call given station (TurnBegins slot on) history) (side_of station))
begin_own given station slot on history is rests received counted handle link at none =
    let setup = setup_at given station in
    let facts = facts_at given station history in
    let next = facts_after setup facts (TurnBegins slot on) in
    let begun = begins_under setup facts slot on handle link (own_at given station (TurnBegins slot on) history handle link at) in
    let end = exchange_at (number_at station handle history) history (side_of station) in
    let before = plain true (packet_received station history) handle facts.turn begun.link end (rests_none facts handle rests)
    (λ listens. absurd (let h : true ≡ false = sym listens ∙ ap (listens_under handle) rests in absurd cc)) (counted station handle begun.link is begun.was) in
    let base = subst (IsCounted end) (sym (base_ack facts slot on handle next.turn.doing link begun)) before in
    let sends = sends_under handle next.turn.doing in
    own_quiet given station (TurnBegins slot on) history handle link at received (begin_noted TakesNone none_taken setup slot on facts)
    (number_called given station (TurnBegins slot on) history handle (begin_noted (OpensNone handle) (opening_none handle) setup slot on facts))
    (from_sent sends received handle next.turn link end refl (λ listens. none)
    (subst (λ l. IsCounted (ahead_if sends end) (ack_of l)) (sym begun.is) (sent_counted sends slot begun.base end base)))

end_own : (given : Given) (station : ℕ) (history : List Event) → is_in station given.stations ≡ true
    → ((handle : ℕ) → sends_under handle (facts_at given station history).turn.doing ≡ false) → (received : Option (List ℕ)) → packet_received station history ≡ None → received ≡ None
    → AreCountedSo given history (λ one. true) (λ one. packet_received one history)
    → (handle : ℕ) (link : OpenLink) → link_at handle (facts_at given station (after_call given station TurnEnds history)).links ≡ Some link
    → IsEndCounted true received handle (facts_at given station (after_call given station TurnEnds history)).turn link
    (exchange_at (number_at station handle (after_call given station TurnEnds history)) (after_call given station TurnEnds history) (side_of station))
end_own given station history is silent received heard none counted handle link at =
    let setup = setup_at given station in
    let facts = facts_at given station history in
    let next = facts_after setup facts TurnEnds in
    let end = exchange_at (number_at station handle history) history (side_of station) in
    let was = end_under setup facts handle link (own_at given station TurnEnds history handle link at) in
    let before = plain true (packet_received station history) handle facts.turn was.link end (silent handle) (λ listens. heard) (counted station handle was.link is was.was) in
    own_quiet given station TurnEnds history handle link at received (end_noted TakesNone none_taken.starts.feeds setup facts)
    (number_called given station TurnEnds history handle (end_noted (OpensNone handle) (opening_none handle).starts.feeds setup facts))
    (from_plain true received handle next.turn link end refl (λ listens. none) (subst (IsCounted end) (sym was.ack) before))

-- a phase passes, at the station whose call it is
module _ (given : Given) (Q : Place → List Event → Type 0) (known : AreKnown given Q) (distinct : AreDistinct given.stations) (phases : ℕ) (done left : List ℕ) (station : ℕ) (history : List Event)
    (are : given.stations ≡ done ++ station ∷ left) (is : AreCountedAt given Q (AtListening phases done (station ∷ left)) history)
    (q : Q (AtListening phases (done ++ station ∷ []) left) (after_call given station (step_of (packet_received station history)) history))
    (holds : Holds given (AreStations given) (AtListening phases (done ++ station ∷ []) left) (after_call given station (step_of (packet_received station history)) history)) where
  abbrev received : Option (List ℕ)
  received = packet_received station history

  abbrev after : List Event
  after = after_call given station (step_of received) history

  abbrev facts : Facts
  facts = facts_at given station history

  abbrev setup : Setup
  setup = setup_at given station

  abbrev next : Facts
  next = facts_after setup facts (step_of received)

  abbrev notes : List Note
  notes = notes_after setup facts (step_of received)

  in_it : is_in station given.stations ≡ true
  in_it = among given.stations done left station are

  pub phased : PhasedBy given history station (at_stage (Within phases) (turns_begun history))
  phased =
      subst (λ b. PhasedBy given history station (if b then at_stage (Within (suc phases)) (turns_begun history) else at_stage (Within phases) (turns_begun history)))
      (not_before given.stations done left station distinct are) (phased_at given (AtListening phases done (station ∷ left)) history is.holds.hearing.stand station in_it)

  pub station_is : IsStation setup facts
  station_is = is.holds.so_far.last.each station in_it

  none_after : packet_received station after ≡ None
  none_after = received_by given station station (step_of received) history true (same_station station)

  -- what it notes of PDUs is of a link that began before this turn
  pub call_is : IsCallOf given station (step_of received) history
  call_is =
      phase_call given station history received station_is.own (λ on handle link at.
      let begun = known.begun (AtListening phases done (station ∷ left)) history is.known station handle link in_it at in
      let before : link.setup.opened < facts.turn.slot = open_has (OpenedBefore facts.turn.slot) 0 handle facts.links link (station_is.old on) at in
      let slot = begun.slot in
      let now = phased.uses.in_turn.slot_is in
      record { link = begun.link; is_link = begun.is_link; before = omega (arith, before, now, slot) }) (phase_of setup facts received)

  -- a link of this turn has the first counts
  fresh : (handle : ℕ) (link : OpenLink) → link_at handle (facts_at given station after).links ≡ Some link → link.setup.opened ≡ facts.turn.slot
      → IsEndCounted true (packet_received station after) handle (facts_at given station after).turn link (exchange_at (number_at station handle after) after (side_of station))
  fresh handle link at opened =
      let number = number_at station handle after in
      let begun = known.begun (AtListening phases (done ++ station ∷ []) left) after q station handle link in_it at in
      let turns : turns_begun after ≡ turns_begun history = turns_called station (step_of received) notes history in
      let now = ap (λ n. n + 1) opened ∙ phased.uses.in_turn.slot_is ∙ sym turns in
      let first = first_of after number station link.setup (first_called given station (step_of received) history call_is is.first number) begun now in
      let slot = ap (λ (f : Facts). f.turn.slot) (own_facts given station (step_of received) history) ∙ (phase_turn setup facts received).slot in
      fresh_counted setup (facts_at given station after) handle link true (packet_received station after) (exchange_at number after (side_of station))
      (holds.so_far.last.each station in_it) at (opened ∙ sym slot) (first.counts (side_of station))

  -- before it takes what it heard, its packet was on the air
  pub before_call : (handle : ℕ) (link : OpenLink) → link_at handle facts.links ≡ Some link
      → IsEndCounted false received handle facts.turn link (exchange_at (number_at station handle history) history (side_of station))
  before_call handle link at =
      subst (λ b. IsEndCounted b received handle facts.turn link (exchange_at (number_at station handle history) history (side_of station)))
      (not_before given.stations done left station distinct are) (is.counted station handle link in_it at)

  -- what it notes of a packet on a link, and what it notes after that it takes a PDU
  abbrev room : Bool
  room = has_room setup facts

  abbrev heard_as : Bool → ℕ → Facts
  heard_as words other = worded words setup other facts

  abbrev rest_heard : Bool → ℕ → List ℕ → List Note
  rest_heard words other octets =
      notes_of_events facts.view (events_received (was_encrypted other facts.view.links) other facts.turn.slot room (link_at other (heard_as words other).links) octets)
      ++ notes_doing (reply_if (replies_in facts.turn.slot room (link_at other (heard_as words other).links) octets) other) (link_received other room octets (heard_as words other))

  notes_rest : (words : Bool) (other : ℕ) (octets : List ℕ) → notes_passed (link_heard setup other octets (heard_as words other))
      ≡ notes_taken facts.turn.slot room (link_at other (heard_as words other).links) octets ++ rest_heard words other octets
  notes_rest words other octets = append_assoc (notes_taken facts.turn.slot room (link_at other (heard_as words other).links) octets) _ _

  rest_takes : (words : Bool) (other : ℕ) (octets : List ℕ) → All TakesNone (rest_heard words other octets)
  rest_takes words other octets =
      All-append TakesNone _ _
      (events_noted TakesNone none_taken.starts.feeds facts.view (events_received (was_encrypted other facts.view.links) other facts.turn.slot room (link_at other (heard_as words other).links) octets))
      (doing_noted TakesNone (λ one number llid body. refl) (reply_if (replies_in facts.turn.slot room (link_at other (heard_as words other).links) octets) other)
      (link_received other room octets (heard_as words other)))

  -- the notes of a link that hears a packet
  notes_here : (words : Bool) (other : ℕ) (octets : List ℕ) (base : OpenLink) → link_at other facts.links ≡ Some base
      → notes ≡ notes_passed (link_heard setup other octets (heard_as words other))
      → notes ≡ notes_taken facts.turn.slot room (Some (link_worded words setup facts base)) octets ++ rest_heard words other octets
  notes_here words other octets base was are_notes =
      are_notes ∙ notes_rest words other octets
      ∙ ap (λ may. notes_taken facts.turn.slot room may octets ++ rest_heard words other octets) (worded_here words setup other facts (Some base) was)

  own_handle : (words : Bool) (other : ℕ) (base : OpenLink) → link_at other facts.links ≡ Some base → (link_worded words setup facts base).setup.link.handle ≡ other
  own_handle words other base was =
      ap (λ (end : EndSetup). end.link.handle) (worded_setup setup facts base words) ∙ handle_is 0 other facts.links base station_is.own.handles was

  -- what is taken on another link
  other_taken : (number other : ℕ) (two : OpenLink) (octets : List ℕ) → two.setup.link.handle ≡ other → (number_at station other history == number) ≡ false → (rest : List Note)
      → notes ≡ notes_taken facts.turn.slot (has_room setup facts) (Some two) octets ++ rest → All TakesNone rest → IsTakenSo facts.turn.slot octets (has_room setup facts) two
      → exchange_at number after ≡ exchange_at number history
  other_taken number other two octets own apart rest are_notes none (Unnoted nothing same) =
      exchange_called given number station (step_of received) history
      (subst (All TakesNone) (sym are_notes) (All-append TakesNone (notes_taken facts.turn.slot (has_room setup facts) (Some two) octets) rest nothing none))
  other_taken number other two octets own apart rest are_notes none (Noted earlier later count llid body noted first opens last same) =
      exchange_took given number station (step_of received) history two.setup.link.handle count llid body earlier (later ++ rest)
      (are_notes ∙ ap (λ xs. xs ++ rest) noted ∙ append_assoc earlier (Took two.setup.link.handle count llid (record { items = body }) ∷ later) rest) first (opens two.setup.link.handle)
      (All-append TakesNone later rest last none)
      ∙ ap (λ b. if b then after_taking (side_of station) (exchange_at number history) else exchange_at number history) (ap (λ n. number_at station n history == number) own ∙ apart)

  other_heard : (handle : ℕ) (link : OpenLink) → link_at handle facts.links ≡ Some link → (other : ℕ) (words : Bool) (octets : List ℕ) → (other == handle) ≡ false
      → notes ≡ notes_passed (link_heard setup other octets (heard_as words other)) → (found : Option OpenLink) → link_at other facts.links ≡ found
      → exchange_at (number_at station handle history) after ≡ exchange_at (number_at station handle history) history
  other_heard handle link at other words octets differs are_notes None absent =
      exchange_called given (number_at station handle history) station (step_of received) history
      (subst (All TakesNone) (sym (are_notes ∙ unfound setup (heard_as words other) other octets (worded_here words setup other facts None absent))) (All-nil TakesNone))
  other_heard handle link at other words octets differs are_notes (Some two) found =
      let apart = apart_numbers given Q known (AtListening phases done (station ∷ left)) history is.known station other handle two link in_it found at differs in
      let base = link_worded words setup facts two in
      other_taken (number_at station handle history) other base octets (own_handle words other two found) apart (rest_heard words other octets)
      (notes_here words other octets two found are_notes) (rest_takes words other octets) (taken_so facts.turn.slot octets room base)

  -- the counts of a link on which nothing was received stay
  unmoved : (handle : ℕ) (link : OpenLink) → link_at handle facts.links ≡ Some link → (listens_under handle facts.turn.doing ≡ true → received ≡ None)
      → IsPhaseOf setup facts received → exchange_at (number_at station handle history) after ≡ exchange_at (number_at station handle history) history
  unmoved handle link at nothing (IsPlainPhase none plain) =
      exchange_called given (number_at station handle history) station (step_of received) history (all_more HasNoData TakesNone (λ note has. has.takes) notes plain)
  unmoved handle link at nothing (IsOnLink other words octets some listens heard_is) =
      let differs : (other == handle) ≡ false = false_from_ne_true (other == handle) (λ same.
      let h : Some octets ≡ None = sym some ∙ nothing (listens handle ∙ same) in absurd cc) in
      other_heard handle link at other words octets differs
      (on_link_notes setup facts received octets (link_heard setup other octets (heard_as words other)) some (ap notes_passed heard_is)) (link_at other facts.links) refl

  -- what it takes, it takes as it is noted
  taken_by : (words : Bool) (handle : ℕ) (base : OpenLink) (octets : List ℕ) → link_at handle facts.links ≡ Some base → received ≡ Some octets → listens_under handle facts.turn.doing ≡ true
      → (rest : List Note) → notes ≡ notes_taken facts.turn.slot room (Some (link_worded words setup facts base)) octets ++ rest → All TakesNone rest
      → IsTakenSo facts.turn.slot octets room (link_worded words setup facts base)
      → IsCounted (exchange_at (number_at station handle history) after (side_of station)) (ack_of (link_after (PacketReceived facts.turn.slot octets room) base))
  taken_by words handle base octets was some on rest are_notes none (Unnoted nothing same) =
      let number = number_at station handle history in
      let end = exchange_at number history (side_of station) in
      let slot = facts.turn.slot in
      let quiet = subst (All TakesNone) (sym are_notes) (All-append TakesNone (notes_taken slot room (Some (link_worded words setup facts base)) octets) rest nothing none) in
      let same_base : ack_of (link_after (PacketReceived slot octets room) base) ≡ ack_taking true (Some octets) slot base =
      sym (worded_heard setup facts base words slot octets room) ∙ same ∙ worded_taking setup facts base words slot octets in
      subst (λ e. IsCounted e (ack_of (link_after (PacketReceived slot octets room) base)))
      (sym (ap (λ (ends : Side → Exchanged). ends (side_of station)) (exchange_called given number station (step_of received) history quiet)))
      (subst (IsCounted end) (sym same_base) (was_taking received octets handle facts.turn base end on some (before_call handle base was)))
  taken_by words handle base octets was some on rest are_notes none (Noted earlier later count llid body noted first opens last same) =
      let number = number_at station handle history in
      let end = exchange_at number history (side_of station) in
      let from = exchange_at number history (other_side (side_of station)) in
      let slot = facts.turn.slot in
      let named = (link_worded words setup facts base).setup.link.handle in
      let notes_are = are_notes ∙ ap (λ xs. xs ++ rest) noted ∙ append_assoc earlier (Took named count llid (record { items = body }) ∷ later) rest in
      let more : length (ack_of (link_after (PacketReceived slot octets room) base)).accepted ≡ length (ack_of base).accepted + 1 =
      ap (λ (a : Acknowledgement). length a.accepted) (sym (worded_heard setup facts base words slot octets room)) ∙ same
      ∙ ap (λ (a : Acknowledgement). length a.accepted + 1) (worded_ack setup facts base words) in
      subst (λ e. IsCounted e (ack_of (link_after (PacketReceived slot octets room) base)))
      (sym (ap (λ (ends : Side → Exchanged). ends (side_of station)) (exchange_took given number station (step_of received) history named count llid body earlier (later ++ rest) notes_are first
      (opens named) (All-append TakesNone later rest last none)
      ∙ ap (λ b. if b then after_taking (side_of station) (exchange_at number history) else exchange_at number history)
      (ap (λ n. number_at station n history == number) (own_handle words handle base was) ∙ same_station number))
      ∙ ap (λ b. if b then with_taken from end else end) (side_same station)))
      (noted_counted slot octets room base end from (is.to_take station handle base in_it was octets on some slot room more ∙ sym more)
      (was_taking received octets handle facts.turn base end on some (before_call handle base was)))

  -- a link that hears a packet, as it is after the call
  pub link_then : (words : Bool) (other : ℕ) (octets : List ℕ) (link base : OpenLink) → received ≡ Some octets
      → phase_heard setup facts.turn.doing octets facts ≡ link_heard setup other octets (heard_as words other)
      → link_at other (facts_at given station after).links ≡ Some link → link_at other facts.links ≡ Some base
      → link ≡ sent_if (sends_under other next.turn.doing) facts.turn.slot (link_receiving other room octets (heard_as words other) (link_worded words setup facts base))
  link_then words other octets link base some heard_is at was =
      let outcome = link_heard setup other octets (heard_as words other) in
      let taken = link_receiving other room octets (heard_as words other) (link_worded words setup facts base) in
      let passes = on_link_facts setup facts received octets outcome some (ap facts_passed heard_is) in
      let now : Some link ≡ Some (sent_if (sends_under other outcome.next) facts.turn.slot taken) =
      sym (own_at given station (step_of received) history other link at) ∙ ap (λ (f : Facts). link_at other f.links) passes
      ∙ taken_at setup (heard_as words other) other octets (link_worded words setup facts base) (worded_here words setup other facts (Some base) was) in
      let one : link ≡ sent_if (sends_under other outcome.next) facts.turn.slot taken = cc in
      one ∙ ap (λ b. sent_if b facts.turn.slot taken) (ap (λ (f : Facts). sends_under other f.turn.doing) (sym passes))

  takes : (words : Bool) (other : ℕ) (octets : List ℕ) (link base : OpenLink) → received ≡ Some octets → listens_under other facts.turn.doing ≡ true
      → phase_heard setup facts.turn.doing octets facts ≡ link_heard setup other octets (heard_as words other)
      → link_at other (facts_at given station after).links ≡ Some link → link_at other facts.links ≡ Some base → number_at station other after ≡ number_at station other history
      → IsEndCounted true (packet_received station after) other (facts_at given station after).turn link (exchange_at (number_at station other after) after (side_of station))
  takes words other octets link base some on heard_is at was number =
      let end = exchange_at (number_at station other history) after (side_of station) in
      let sends = sends_under other next.turn.doing in
      let slot = facts.turn.slot in
      let heard_base = link_worded words setup facts base in
      let taken = link_receiving other room octets (heard_as words other) heard_base in
      let are_notes = on_link_notes setup facts received octets (link_heard setup other octets (heard_as words other)) some (ap notes_passed heard_is) in
      let counted = taken_by words other base octets was some on (rest_heard words other octets) (notes_here words other octets base was are_notes)
      (rest_takes words other octets) (taken_so slot octets room heard_base) in
      moved other link true true (packet_received station after) (packet_received station after) next.turn (facts_at given station after).turn end
      (exchange_at (number_at station other after) after (side_of station)) refl refl
      (ap (λ (f : Facts). f.turn) (own_facts given station (step_of received) history)) (ap (λ n. exchange_at n after (side_of station)) number)
      (from_sent sends (packet_received station after) other next.turn link end refl (λ listens. none_after)
      (subst (λ l. IsCounted (ahead_if sends end) (ack_of l)) (sym (link_then words other octets link base some heard_is at was))
      (sent_counted sends slot taken end
      (subst (IsCounted end) (sym (received_ack_is other room octets (heard_as words other) heard_base ∙ worded_heard setup facts base words slot octets room)) counted))))

  taken_own : (handle : ℕ) (link base : OpenLink) (octets : List ℕ) → received ≡ Some octets → listens_under handle facts.turn.doing ≡ true
      → link_at handle (facts_at given station after).links ≡ Some link → link_at handle facts.links ≡ Some base → number_at station handle after ≡ number_at station handle history
      → IsPhaseOf setup facts received
      → IsEndCounted true (packet_received station after) handle (facts_at given station after).turn link (exchange_at (number_at station handle after) after (side_of station))
  taken_own handle link base octets some on at was number (IsPlainPhase none plain) = absurd (let h : Some octets ≡ None = sym some ∙ none handle on in absurd cc)
  taken_own handle link base octets some on at was number (IsOnLink other words heard_octets some_too listens heard_is) =
      subst (λ n. link_at n (facts_at given station after).links ≡ Some link → link_at n facts.links ≡ Some base → number_at station n after ≡ number_at station n history
      → IsEndCounted true (packet_received station after) n (facts_at given station after).turn link (exchange_at (number_at station n after) after (side_of station)))
      (eqb-true other handle (sym (listens handle) ∙ on))
      (takes words other heard_octets link base some_too (listens other ∙ same_station other) heard_is) at was number

  passed : (handle : ℕ) (link : OpenLink) → link_at handle (facts_at given station after).links ≡ Some link → number_at station handle after ≡ number_at station handle history
      → HasPassed setup facts room received handle next.turn.doing link
      → IsEndCounted true (packet_received station after) handle (facts_at given station after).turn link (exchange_at (number_at station handle after) after (side_of station))
  passed handle link at number (IsNew end made opened off) = fresh handle link at (ap (λ (l : OpenLink). l.setup.opened) made ∙ opened)
  passed handle link at number (Stays was none nothing listened) =
      let end = exchange_at (number_at station handle history) history (side_of station) in
      own_moved given station (step_of received) history handle link at (packet_received station after)
      (ap (λ (ends : Side → Exchanged). ends (side_of station)) (unmoved handle link was nothing (phase_of setup facts received))) number
      (from_plain true (packet_received station after) handle next.turn link end none (λ listens. none_after)
      (was_plain received handle facts.turn link end nothing (before_call handle link was)))
  passed handle link at number (Takes base octets was some on same) =
      taken_own handle link base octets some on at was number (phase_of setup facts received)

  pub passes_own : (handle : ℕ) (link : OpenLink) → link_at handle (facts_at given station after).links ≡ Some link
      → IsEndCounted true (packet_received station after) handle (facts_at given station after).turn link (exchange_at (number_at station handle after) after (side_of station))
  passes_own handle link at =
      passed_or_new given station history phased.uses.in_turn.listens
      (IsEndCounted true (packet_received station after) handle (facts_at given station after).turn link (exchange_at (number_at station handle after) after (side_of station))) handle link at
      (passed handle link at) (λ new. fresh handle link at new.opened)

-- what is sent on a data channel is sent on a link
sends_on_link : (held : Facts) (channel : ℕ) (octets : List ℕ) → is_advertising channel ≡ false → IsUseSent held (Sends channel octets) → is_on_link held.turn.doing ≡ true
sends_on_link held channel octets off (inl pdu) = absurd (advertises channel pdu.on_channel off)
sends_on_link held channel octets off (inr sent) = sending_on_link sent.handle held.turn.doing sent.sends

later_sender : (one : ℕ) (done : List ℕ) (station : ℕ) → is_in one (done ++ station ∷ []) ≡ false → (same : Bool) → (one == station) ≡ same → same ≡ false
later_sender one done station out true is = absurd (let h : true ≡ false = sym (in_more_same one station done is) ∙ out in absurd cc)
later_sender one done station out false is = refl

-- ---- each step

module _ (whole : IsHeardWhole) (given : Given) (Q : Place → List Event → Type 0) (known : AreKnown given Q) (are_two : IsOfTwo given) (six : HaveAddresses given)
    (distinct : AreDistinct given.stations) where
  still_silent : (phases : ℕ) (done left : List ℕ) (station : ℕ) (history : List Event) → IsSilent given (AtPackets phases done (station ∷ left)) history
      → IsSilent given (AtPackets phases (done ++ station ∷ []) left) history
  still_silent phases done left station history silent = λ other sender in_it is_too differs out.
      silent other sender in_it is_too differs (not_in_more sender done station out (sender == station) refl)

  -- a station hears nothing of itself
  packet_silent : (phases : ℕ) (done left : List ℕ) (station channel : ℕ) (octets : List ℕ) (fates : List Fate) (history : List Event) → is_in station given.stations ≡ true
      → IsSilent given (AtPackets phases done (station ∷ left)) history
      → IsSilent given (AtPackets phases (done ++ station ∷ []) left) (history ++ Transmitted station channel octets (hearings_of given fates station channel octets history) ∷ [])
  packet_silent phases done left station channel octets fates history in_it silent = λ other sender is_other is_sender differs out.
      let apart : (sender == station) ≡ false = later_sender sender done station out (sender == station) refl in
      let one = other_is given are_two sender station is_sender in_it (differs_back sender station apart) ∙ sym (other_is given are_two sender other is_sender is_other differs) in
      subst (λ n. packet_received n (history ++ Transmitted station channel octets (hearings_of given fates station channel octets history) ∷ []) ≡ packet_received n history) one
      (received_own given fates station channel octets history)
      ∙ silent other sender is_other is_sender differs (not_in_more sender done station out (sender == station) refl)

  -- a packet of a link is sent in a turn after that of its CONNECT_IND
  pub sent_later : (phases : ℕ) (done left : List ℕ) (station channel : ℕ) (octets : List ℕ) (history : List Event) → given.stations ≡ done ++ station ∷ left
      → use_at given station history ≡ Sends channel octets → is_advertising channel ≡ false → AreCountedAt given Q (AtPackets phases done (station ∷ left)) history
      → (sent : IsOfSendersLink given history station channel octets) → sent.link.setup.opened + 1 < turns_begun history
  sent_later phases done left station channel octets history are wanted off is sent =
      let place = AtPackets phases done (station ∷ left) in
      let in_it = among given.stations done left station are in
      let phased = phased_at given place history is.holds.hearing.stand station in_it in
      let facts = facts_at given station history in
      let old = (is.holds.so_far.last.each station in_it).old (sends_on_link facts channel octets off (use_sent_at given six place history is.holds.hearing.stand station in_it channel octets wanted)) in
      let before : sent.link.setup.opened < facts.turn.slot =
      open_has (OpenedBefore facts.turn.slot) 0 sent.handle facts.links (link_after (PacketSent sent.slot) sent.link) old sent.is_open in
      let now = phased.uses.in_turn.slot_is in omega (arith, before, now)

  packet_first : (phases : ℕ) (done left : List ℕ) (station channel : ℕ) (octets : List ℕ) (fates : List Fate) (history : List Event) → given.stations ≡ done ++ station ∷ left
      → use_at given station history ≡ Sends channel octets → AreCountedAt given Q (AtPackets phases done (station ∷ left)) history
      → AreFirst (history ++ Transmitted station channel octets (hearings_of given fates station channel octets history) ∷ [])
  packet_first phases done left station channel octets fates history are wanted is = λ number. by number (is_advertising channel) refl
    where
      by : (number : ℕ) → (on : Bool) → is_advertising channel ≡ on
          → IsFirst number (history ++ Transmitted station channel octets (hearings_of given fates station channel octets history) ∷ [])
      by number true on =
          let hearings = hearings_of given fates station channel octets history in
          first_event_at number history (Transmitted station channel octets hearings) (record {
            exchange = air_quiet number station channel octets history hearings (hearing_of given fates station channel octets history)
                (one_hearing given are_two fates station channel octets history (among given.stations done left station are)) on;
            lines = air_line number history station channel octets hearings;
          }) (is.first number)
      by number false off =
          let place = AtPackets phases done (station ∷ left) in
          let in_it = among given.stations done left station are in
          let sent = known.sends phases done left station history are is.known channel octets wanted off in
          let begun = known.begun place history is.known station sent.handle (link_after (PacketSent sent.slot) sent.link) in_it sent.is_open in
          let later = sent_later phases done left station channel octets history are wanted off is sent in
          first_aired number (number_at station sent.handle history) station channel octets history (hearings_of given fates station channel octets history)
          (hearing_of given fates station channel octets history) begun.link (one_hearing given are_two fates station channel octets history in_it) off sent.belongs begun.is_link
          (subst (λ n. n + 1 < turns_begun history) (sym begun.slot) later) (is.first number) (number_at station sent.handle history == number) refl

  silence_kept : (phases : ℕ) (done left : List ℕ) (station : ℕ) (history : List Event) → given.stations ≡ done ++ station ∷ left
      → packet_in (use_at given station history) ≡ [] → AreCountedAt given Q (AtPackets phases done (station ∷ left)) history
      → AreCountedSo given history (unsent (AtPackets phases (done ++ station ∷ []) left)) (λ one. packet_received one history)
  silence_kept phases done left station history are none is = λ one handle link in_it at. by one handle link in_it at (one == station) refl
    where
      by : (one handle : ℕ) (link : OpenLink) → is_in one given.stations ≡ true → link_at handle (facts_at given one history).links ≡ Some link → (same : Bool) → (one == station) ≡ same
          → IsEndCounted (not (is_in one (done ++ station ∷ []))) (packet_received one history) handle (facts_at given one history).turn link
          (exchange_at (number_at one handle history) history (side_of one))
      by one handle link in_it at true same =
          let place = AtPackets phases done (station ∷ left) in
          let equal = eqb-true one station same in
          let phased = phased_at given place history is.holds.hearing.stand one in_it in
          any_sending (not (is_in one done)) (not (is_in one (done ++ station ∷ []))) (packet_received one history) handle (facts_at given one history).turn link
          (exchange_at (number_at one handle history) history (side_of one))
          (silent_sends (facts_at given one history) handle link phased.uses.sends at
          (ap packet_in (wanted_is given one history) ∙ ap (λ n. packet_in (use_at given n history)) equal ∙ none)) (is.counted one handle link in_it at)
      by one handle link in_it at false differs =
          subst (λ b. IsEndCounted (not b) (packet_received one history) handle (facts_at given one history).turn link (exchange_at (number_at one handle history) history (side_of one)))
          (sym (in_more_other one station done differs)) (is.counted one handle link in_it at)

  -- what is noted of PDUs as a turn begins is of a link that began before that turn
  pub begun_call : (done left : List ℕ) (station slot : ℕ) (on : Bool) (history : List Event) → given.stations ≡ done ++ station ∷ left
      → IsInTurn (setup_at given station) Between (turns_begun history - 1) (facts_at given station history) → AreCountedAt given Q (AtBegins done (station ∷ left)) history
      → IsCallOf given station (TurnBegins slot on) history
  begun_call done left station slot on history are in_turn is =
      let in_it = among given.stations done left station are in
      let facts = facts_at given station history in
      let station_is = is.holds.so_far.last.each station in_it in
      begin_call given station history station_is.own (λ handle link at.
      let begun = known.begun (AtBegins done (station ∷ left)) history is.known station handle link in_it at in
      let before : link.setup.opened < facts.turn.begun = open_has (OpenedBefore facts.turn.begun) 0 handle facts.links link station_is.earlier at in
      let slot = begun.slot in
      let now = in_turn.begun_is in
      record { link = begun.link; is_link = begun.is_link; before = omega (arith, before, now, slot) }) slot on

  pub counts_kept : IsKept given (AreCountedAt given Q)
  counts_kept = let kept = holds_kept given (AreStations given) (stations_kept given) six distinct in record {
    on_turn = λ slot plan history begun at is.
        let event = TurnBegan slot (map plan.radio_of given.stations) in record {
          known = known.kept.on_turn slot plan history begun at is.known;
          holds = kept.on_turn slot plan history begun at is.holds;
          first = first_event history event (λ number. record {
            exchange = turn_quiet number history slot (map plan.radio_of given.stations);
            lines = turn_line number history slot (map plan.radio_of given.stations);
          }) is.first;
          silent = tt;
          to_take = tt;
          counted = counted_same given (history ++ event ∷ []) (λ one. true) (λ one. true) (λ one. packet_received one history) (λ one. packet_received one (history ++ event ∷ []))
              (λ one in_it. refl) (λ one in_it. received_event one history event)
              (counted_event given history event (λ one. true) (λ one. packet_received one history) (λ one. refl)
              (λ number. turn_quiet number history slot (map plan.radio_of given.stations)) (λ one handle. number_quiet one handle history event (λ links. refl)) is.counted);
        };
    on_feed = λ plan done left station history are some now is.
        let octets = take (plan.feed_of station) (octets_left given station history) in
        let holds = kept.on_feed plan done left station history are some now is.holds in
        let fed = feed_fed given are_two station octets history (among given.stations done left station are) (record {
          first = is.first;
          counted = counted_same given history (λ one. true) (λ one. true) (λ one. packet_received one history) (λ one. None) (λ one in_it. refl)
              (λ one in_it. sym (is.holds.hearing.hears one in_it)) is.counted;
        }) in record {
          known = known.kept.on_feed plan done left station history are some now is.known;
          holds = holds;
          first = fed.first;
          silent = tt;
          to_take = tt;
          counted = counted_same given (after_feed given station octets history) (λ one. true) (λ one. true) (λ one. None) (λ one. packet_received one (after_feed given station octets history))
              (λ one in_it. refl) (λ one in_it. holds.hearing.hears one in_it) fed.counted;
        };
    on_fed = λ history is. record { known = known.kept.on_fed history is.known; holds = kept.on_fed history is.holds; first = is.first; silent = tt; to_take = tt; counted = is.counted };
    on_begin = λ slot plan done left station history are due is.
        let on = plan.radio_of station in
        let step = TurnBegins slot on in
        let holds = kept.on_begin slot plan done left station history are due is.holds in
        let in_it = among given.stations done left station are in
        let phased = subst (λ b. PhasedBy given history station (if b then at_stage (Within 0) (turns_begun history) else at_stage Between (turns_begun history - 1)))
        (not_before given.stations done left station distinct are) (phased_at given (AtBegins done (station ∷ left)) history is.holds.hearing.stand station in_it) in record {
          known = known.kept.on_begin slot plan done left station history are due is.known;
          holds = holds;
          first = first_called given station step history (begun_call done left station slot on history are phased.uses.in_turn is) is.first;
          silent = tt;
          to_take = tt;
          counted = counted_call given are_two station step history (λ one. true) (λ one. true) (λ one. packet_received one history) (λ one. packet_received one (after_call given station step history)) in_it
              (λ handle link at. begin_own given station slot on history in_it phased.phase (packet_received station (after_call given station step history)) is.counted handle link at
              (holds.hearing.hears station in_it))
              (λ other is_too differs. refl) (λ other is_too differs. received_by given other station step history false differs) is.counted;
        };
    on_begun = λ history is. record { known = known.kept.on_begun history is.known; holds = kept.on_begun history is.holds; first = is.first; silent = tt; to_take = tt; counted = is.counted };
    on_phase = λ phases history few is. record {
      known = known.kept.on_phase phases history few is.known;
      holds = kept.on_phase phases history few is.holds;
      first = is.first;
      silent = λ other sender in_it is_too differs out. is.holds.hearing.hears other in_it;
      to_take = λ station handle link in_it at.
          none_to_take (packet_received station history) handle (facts_at given station history).turn link
          (exchange_at (number_at station handle history) history (other_side (side_of station))) (is.holds.hearing.hears station in_it);
      counted = is.counted;
    };
    on_silence = λ phases done left station history are none is. record {
      known = known.kept.on_silence phases done left station history are none is.known;
      holds = kept.on_silence phases done left station history are none is.holds;
      first = is.first;
      silent = still_silent phases done left station history is.silent;
      to_take = is.to_take;
      counted = silence_kept phases done left station history are none is;
    };
    on_packet = λ phases plan done left station channel octets history are some due is.
        let hearings = hearings_of given plan.fates station channel octets history in
        let event = Transmitted station channel octets hearings in
        let in_it = among given.stations done left station are in
        let out = not_before given.stations done left station distinct are in record {
          known = known.kept.on_packet phases plan done left station channel octets history are some due is.known;
          holds = kept.on_packet phases plan done left station channel octets history are some due is.holds;
          first = packet_first phases done left station channel octets plan.fates history are due.is_wanted is;
          silent = packet_silent phases done left station channel octets plan.fates history in_it is.silent;
          to_take = packet_to_take whole given Q known are_two six distinct phases done left station channel octets plan.fates history are due.is_wanted is.known is.holds is.counted
              due.is_seen (λ other is_other differs. is.silent other station is_other in_it differs out);
          counted = packet_counted whole given Q known are_two six distinct phases done left station channel octets plan.fates history are due.is_wanted is.known is.holds is.counted
              due.is_seen (λ other is_other differs. is.silent other station is_other in_it differs out);
        };
    on_air = λ phases history is. record {
      known = known.kept.on_air phases history is.known;
      holds = kept.on_air phases history is.holds;
      first = is.first;
      silent = tt;
      to_take = is.to_take;
      counted = counted_same given history (λ one. not (is_in one given.stations)) (λ one. is_in one []) (λ one. packet_received one history) (λ one. packet_received one history)
          (λ one in_it. sym (ap not in_it)) (λ one in_it. refl) is.counted;
    };
    on_hearing = λ phases done left station history are some is.
        let received = packet_received station history in
        let step = step_of received in
        let q = known.kept.on_hearing phases done left station history are some is.known in
        let holds = kept.on_hearing phases done left station history are some is.holds in
        let in_it = among given.stations done left station are in
        let after = after_call given station step history in record {
          known = q;
          holds = holds;
          first = first_called given station step history (call_is given Q known distinct phases done left station history are is q holds) is.first;
          silent = tt;
          to_take = take_call given station step history (received_by given station station step history true (same_station station))
              (λ other differs. received_by given other station step history false differs) is.to_take;
          counted = counted_call given are_two station step history (λ one. is_in one done) (λ one. is_in one (done ++ station ∷ [])) (λ one. packet_received one history) (λ one. packet_received one after) in_it
              (λ handle link at. subst (λ b. IsEndCounted b (packet_received station after) handle (facts_at given station after).turn link (exchange_at (number_at station handle after) after (side_of station)))
              (sym (in_more_same station station done (same_station station)))
              (passes_own given Q known distinct phases done left station history are is q holds handle link at))
              (λ other is_too differs. in_more_other other station done differs) (λ other is_too differs. received_by given other station step history false differs) is.counted;
        };
    on_heard = λ phases history is. record {
      known = known.kept.on_heard phases history is.known;
      holds = kept.on_heard phases history is.holds;
      first = is.first;
      silent = tt;
      to_take = tt;
      counted = counted_same given history (λ one. is_in one given.stations) (λ one. true) (λ one. packet_received one history) (λ one. packet_received one history)
          (λ one in_it. sym in_it) (λ one in_it. refl) is.counted;
    };
    on_phases = λ history is. record { known = known.kept.on_phases history is.known; holds = kept.on_phases history is.holds; first = is.first; silent = tt; to_take = tt; counted = is.counted };
    on_end = λ done left station history are some is.
        let holds = kept.on_end done left station history are some is.holds in
        let in_it = among given.stations done left station are in
        let phased = subst (λ b. PhasedBy given history station (if b then at_stage Between (turns_begun history) else at_stage (Within 3) (turns_begun history)))
        (not_before given.stations done left station distinct are) (phased_at given (AtEnds done (station ∷ left)) history is.holds.hearing.stand station in_it) in record {
          known = known.kept.on_end done left station history are some is.known;
          holds = holds;
          first = first_called given station TurnEnds history (OfNone (end_noted HasNoData no_data.feeds (setup_at given station) (facts_at given station history))) is.first;
          silent = tt;
          to_take = tt;
          counted = counted_call given are_two station TurnEnds history (λ one. true) (λ one. true) (λ one. packet_received one history) (λ one. packet_received one (after_call given station TurnEnds history)) in_it
              (end_own given station history in_it (λ handle. last_phase (facts_at given station history).links (facts_at given station history).turn.doing handle phased.phase)
              (packet_received station (after_call given station TurnEnds history)) (is.holds.hearing.hears station in_it) (holds.hearing.hears station in_it) is.counted)
              (λ other is_too differs. refl) (λ other is_too differs. received_by given other station TurnEnds history false differs) is.counted;
        };
    on_ended = λ history is. record { known = known.kept.on_ended history is.known; holds = kept.on_ended history is.holds; first = is.first; silent = tt; to_take = tt; counted = is.counted };
  }
