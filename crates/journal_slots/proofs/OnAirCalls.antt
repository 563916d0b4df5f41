-- What the events of open ends hold was on the air, after each call on a controller of a run.
use Rattle.std.proofs.Common.{◌≡◌, ℕ, suc, ◌==◌, ◌&&◌, ◌||◌, Bool, true, false, Option, Some, None, List, [], ◌∷◌, ◌++◌, refl, sym, ap, subst, ◌∙◌}
use Rattle.std.specs.Prelude.{map, if◌then◌else◌}
use Rattle.std.proofs.lemmas.Bool.{eqb-true}
use Rattle.journal.specs.declared.entries.Entry.{Entry}
use Rattle.journal_acks.specs.link_model.declared.events.ConnectionEvent.{ConnectionEvent}
use Rattle.journal_acks.specs.link_model.Events.{no_event}
use Rattle.journal_acks.specs.link_model.Packets.{more_sent}
use Rattle.journal_acks.specs.link_model.Step.{PacketReceived}
use Rattle.journal_acks.specs.open_links.OpenLinks.{OpenLink, facts_in, link_after, link_at}
use Rattle.journal_acks.specs.controller_model.declared.doing.Doing.TheVariants.{Rests}
use Rattle.journal_acks.specs.controller_model.declared.doing.Turn.{Turn}
use Rattle.journal_acks.specs.controller_model.Step.{Step, HostOctet, TurnBegins, TurnEnds}
use Rattle.journal_acks.specs.controller_model.Facts.{Facts}
use Rattle.journal_acks.specs.controller_model.Heard.{has_room}
use Rattle.journal_acks.specs.controller_model.Side.{facts_after, notes_after}
use Rattle.journal_acks.specs.run_model.Feeding.{AreDistinct}
use Rattle.journal_acks.specs.run_model.History.{Event, Called, HostFed, Noted, packet_received, steps_in, turns_begun}
use Rattle.journal_acks.specs.run_model.Journal.{entries_of, journal_from, journal_of, side_of}
use Rattle.journal_acks.specs.run_model.Links.{links_of}
use Rattle.journal_acks.specs.run_model.Run.{Given, after_call, after_feed, after_octets, facts_at, setup_at, step_of}
use Rattle.journal_acks.proofs.PassedLinks.{passed_or_new}
use Rattle.journal_acks.proofs.run_model.Calls.{same_station}
use Rattle.journal_acks.proofs.run_model.LinkEnds.{received_by}
use Rattle.journal_acks.proofs.run_model.Parts.{journal_event, journal_more}
use Rattle.journal_acks.proofs.run_model.Stations.{is_in, among, not_before}
use Rattle.journal_acks.proofs.run_model.Walk.{Place, AtListening}
use Rattle.journal_acks.proofs.run_laws.Hearings.{other_facts, own_facts}
use Rattle.journal_acks.proofs.run_laws.TurnPlaces.{Within, at_stage}
use Rattle.journal_acks.proofs.run_laws.TurnSteps.{begins_slot, octet_turn, phase_turn}
use Rattle.journal_acks.proofs.link_calls.CallNotes.{begin_noted, end_noted, octet_noted}
use Rattle.journal_acks.proofs.Counting.{facts_event, taking_if}
use Rattle.journal_acks.proofs.link_calls.CallNotes.{OpensNone, opening_none}
use Rattle.journal_acks.proofs.Exchanging.{number_at, number_called, number_other, number_quiet}
use Rattle.journal_acks.proofs.KeptCounts.{AreCountedAt, own_at, unsent}
use Rattle.journal_acks.specs.link_calls.Phases.{HasPassed, IsNew, Stays, Takes, link_receiving}
use Rattle.journal_acks.proofs.link_calls.LinkCalls.{begins_under, new_event, off_sends, passes_under, receiving_event}
use Rattle.journal_acks.specs.link_calls.Uses.{listens_under, sends_under}
use Rattle.journal_acks.proofs.Standing.{PhasedBy, phased_at}
use Rattle.journal_acks.proofs.link_calls.UnderHandles.{end_under, octet_under}
use Rattle.journal_acks.specs.link_calls.Turns.{sent_if}
use Rattle.journal_slots.proofs.ExchangeSlots.{event_after_sending}
use Rattle.journal_slots.proofs.OnAir.{IsEndOnAir, IsOnAir, WasOnAir, base_on_air, event_on_air, from_base, moved, new_on_air, not_sending, on_air_stays, plain, room_event}

-- ---- all ends

module _ (given : Given) where
  abbrev pub AreOnAirSo : List Event → (ℕ → Bool) → (ℕ → Option (List ℕ)) → Type 0
  AreOnAirSo history unsent received = (station handle : ℕ) (link : OpenLink) → is_in station given.stations ≡ true → link_at handle (facts_at given station history).links ≡ Some link
      → IsEndOnAir (unsent station) (received station) handle (facts_at given station history).turn link (number_at station handle history) (side_of station) (journal_of history)

  pub on_air_same : (history : List Event) (unsent unsent_too : ℕ → Bool) (received received_too : ℕ → Option (List ℕ))
      → ((station : ℕ) → is_in station given.stations ≡ true → unsent_too station ≡ unsent station)
      → ((station : ℕ) → is_in station given.stations ≡ true → received_too station ≡ received station)
      → AreOnAirSo history unsent received → AreOnAirSo history unsent_too received_too
  on_air_same history unsent unsent_too received received_too u r are = λ station handle link is at.
      let turn = (facts_at given station history).turn in
      let was = are station handle link is at in
      subst (λ b. IsEndOnAir b (received_too station) handle turn link (number_at station handle history) (side_of station) (journal_of history)) (sym (u station is))
      (subst (λ may. IsEndOnAir (unsent station) may handle turn link (number_at station handle history) (side_of station) (journal_of history)) (sym (r station is)) was)

  -- an event that is not a packet
  pub on_air_event : (history : List Event) (event : Event) (unsent : ℕ → Bool) (received : ℕ → Option (List ℕ)) → ((station : ℕ) → steps_in station event ≡ [])
      → ((station handle : ℕ) → number_at station handle (history ++ event ∷ []) ≡ number_at station handle history)
      → AreOnAirSo history unsent received → AreOnAirSo (history ++ event ∷ []) unsent received
  on_air_event history event unsent received none number are = λ station handle link is at.
      let same = facts_event given station history event (none station) in
      moved handle link (side_of station) (unsent station) (unsent station) (received station) (received station) (facts_at given station history).turn
      (facts_at given station (history ++ event ∷ [])).turn (number_at station handle history) (number_at station handle (history ++ event ∷ []))
      (journal_of history) (journal_of (history ++ event ∷ [])) (entries_of (links_of history) event)
      refl refl (ap (λ (f : Facts). f.turn) same) (number station handle) (journal_event history event)
      (are station handle link is (ap (λ (f : Facts). link_at handle f.links) (sym same) ∙ at))

  -- the lines of a call
  pub call_lines : (station : ℕ) (step : Step) (history : List Event) → List Entry
  call_lines station step history =
      journal_from (links_of history) (Called station step ∷ map (Noted station) (notes_after (setup_at given station) (facts_at given station history) step))

  pub call_journal : (station : ℕ) (step : Step) (history : List Event) → journal_of (after_call given station step history) ≡ journal_of history ++ call_lines station step history
  unfolding call_lines
  call_journal station step history = journal_more history (Called station step ∷ map (Noted station) (notes_after (setup_at given station) (facts_at given station history) step))

  -- a call on one station
  pub on_air_call : (station : ℕ) (step : Step) (history : List Event) (unsent unsent_too : ℕ → Bool) (received received_too : ℕ → Option (List ℕ))
      → ((handle : ℕ) (link : OpenLink) → link_at handle (facts_at given station (after_call given station step history)).links ≡ Some link
      → IsEndOnAir (unsent_too station) (received_too station) handle (facts_at given station (after_call given station step history)).turn link
      (number_at station handle (after_call given station step history)) (side_of station) (journal_of (after_call given station step history)))
      → ((other : ℕ) → is_in other given.stations ≡ true → (other == station) ≡ false → unsent_too other ≡ unsent other)
      → ((other : ℕ) → is_in other given.stations ≡ true → (other == station) ≡ false → received_too other ≡ received other)
      → AreOnAirSo history unsent received → AreOnAirSo (after_call given station step history) unsent_too received_too
  on_air_call station step history unsent unsent_too received received_too own u r are = λ other handle link is at. by other handle link is at (other == station) refl
    where
      by : (other handle : ℕ) (link : OpenLink) → is_in other given.stations ≡ true → link_at handle (facts_at given other (after_call given station step history)).links ≡ Some link
          → (same : Bool) → (other == station) ≡ same
          → IsEndOnAir (unsent_too other) (received_too other) handle (facts_at given other (after_call given station step history)).turn link
          (number_at other handle (after_call given station step history)) (side_of other) (journal_of (after_call given station step history))
      by other handle link is at true one =
          let equal = eqb-true other station one in
          let next = after_call given station step history in
          subst (λ n. IsEndOnAir (unsent_too n) (received_too n) handle (facts_at given n next).turn link (number_at n handle next) (side_of n) (journal_of next)) (sym equal)
          (own handle link (subst (λ n. link_at handle (facts_at given n next).links ≡ Some link) equal at))
      by other handle link is at false differs =
          let next = after_call given station step history in
          let same = other_facts given station step history other differs in
          moved handle link (side_of other) (unsent other) (unsent_too other) (received other) (received_too other) (facts_at given other history).turn (facts_at given other next).turn
          (number_at other handle history) (number_at other handle next) (journal_of history) (journal_of next) (call_lines station step history)
          (u other is differs) (r other is differs) (ap (λ (f : Facts). f.turn) same) (number_other given station step history other handle differs) (call_journal station step history)
          (are other handle link is (ap (λ (f : Facts). link_at handle f.links) (sym same) ∙ at))

  -- what was on the air before the call was on the air
  pub before_call : (station : ℕ) (step : Step) (history : List Event) (handle number : ℕ) (link : OpenLink) → number_at station handle (after_call given station step history) ≡ number
      → IsOnAir number (side_of station) (journal_of history) (facts_in link).event
      → IsOnAir (number_at station handle (after_call given station step history)) (side_of station) (journal_of (after_call given station step history)) (facts_in link).event
  before_call station step history handle number link same is =
      subst (λ n. IsOnAir n (side_of station) (journal_of (after_call given station step history)) (facts_in link).event) (sym same)
      (subst (λ xs. IsOnAir number (side_of station) xs (facts_in link).event) (sym (call_journal station step history))
      (on_air_stays number (side_of station) (journal_of history) (call_lines station step history) (facts_in link).event is))

-- ---- a call after which an end may have a packet to send, and none to take

-- an end with what was on the air before, but for a packet that it is to send
pub own_sends : (given : Given) (station : ℕ) (step : Step) (history : List Event) (received : Option (List ℕ)) (handle : ℕ) (link base : OpenLink) → received ≡ None
    → number_at station handle (after_call given station step history) ≡ number_at station handle history
    → link ≡ sent_if (sends_under handle (facts_after (setup_at given station) (facts_at given station history) step).turn.doing)
    (facts_after (setup_at given station) (facts_at given station history) step).turn.slot base
    → IsOnAir (number_at station handle history) (side_of station) (journal_of history) (facts_in base).event
    → IsEndOnAir true received handle (facts_at given station (after_call given station step history)).turn link
    (number_at station handle (after_call given station step history)) (side_of station) (journal_of (after_call given station step history))
own_sends given station step history received handle link base none number is on_air =
    let after = after_call given station step history in
    let held = facts_after (setup_at given station) (facts_at given station history) step in
    subst (λ (t : Turn). IsEndOnAir true received handle t link (number_at station handle after) (side_of station) (journal_of after))
    (ap (λ (f : Facts). f.turn) (sym (own_facts given station step history)))
    (from_base true (sends_under handle held.turn.doing) received handle held.turn link base (number_at station handle after) (side_of station) (journal_of after)
    refl (λ listens. none) is (before_call given station step history handle (number_at station handle history) base number on_air))

-- one that is to send nothing
pub own_rests : (given : Given) (station : ℕ) (step : Step) (history : List Event) (received : Option (List ℕ)) (handle : ℕ) (before link : OpenLink) → received ≡ None
    → number_at station handle (after_call given station step history) ≡ number_at station handle history
    → sends_under handle (facts_after (setup_at given station) (facts_at given station history) step).turn.doing ≡ false
    → (facts_in link).event ≡ (facts_in before).event
    → IsOnAir (number_at station handle history) (side_of station) (journal_of history) (facts_in before).event
    → IsEndOnAir true received handle (facts_at given station (after_call given station step history)).turn link
    (number_at station handle (after_call given station step history)) (side_of station) (journal_of (after_call given station step history))
own_rests given station step history received handle before link none number sends same on_air =
    let held = facts_after (setup_at given station) (facts_at given station history) step in
    own_sends given station step history received handle link link none number (ap (λ b. sent_if b held.turn.slot link) (sym sends))
    (event_on_air (number_at station handle history) (side_of station) (journal_of history) before link same on_air)

-- ---- a host sends

module _ (given : Given) where
  abbrev AreOnAirFed : List Event → Type 0
  AreOnAirFed history = AreOnAirSo given history (λ one. true) (λ one. None)

  octet_on_air : (station octet : ℕ) (history : List Event) → is_in station given.stations ≡ true → (facts_at given station history).turn.doing ≡ Rests → AreOnAirFed history
      → AreOnAirFed (after_call given station (HostOctet octet) history)
  octet_on_air station octet history in_it rests are = on_air_call given station (HostOctet octet) history (λ one. true) (λ one. true) (λ one. None) (λ one. None) (λ handle link at.
      let setup = setup_at given station in
      let facts = facts_at given station history in
      let was = octet_under setup facts octet handle link (own_at given station (HostOctet octet) history handle link at) in
      own_rests given station (HostOctet octet) history None handle was.link link refl
      (number_called given station (HostOctet octet) history handle (octet_noted (OpensNone handle) (opening_none handle).starts.feeds setup facts octet))
      (ap (λ (t : Turn). sends_under handle t.doing) (octet_turn setup facts octet).turn ∙ ap (sends_under handle) rests) was.event
      (plain true None handle facts.turn was.link (number_at station handle history) (side_of station) (journal_of history) (ap (sends_under handle) rests) (λ listens. refl)
      (are station handle was.link in_it was.was))) (λ other is_too differs. refl) (λ other is_too differs. refl) are

  octet_rests : (station octet : ℕ) (history : List Event) → (facts_at given station history).turn.doing ≡ Rests
      → (facts_at given station (after_call given station (HostOctet octet) history)).turn.doing ≡ Rests
  octet_rests station octet history rests =
      ap (λ (f : Facts). f.turn.doing) (own_facts given station (HostOctet octet) history)
      ∙ ap (λ (t : Turn). t.doing) (octet_turn (setup_at given station) (facts_at given station history) octet).turn ∙ rests

  octets_on_air : (station : ℕ) (octets : List ℕ) (history : List Event) → is_in station given.stations ≡ true → (facts_at given station history).turn.doing ≡ Rests → AreOnAirFed history
      → AreOnAirFed (after_octets given station octets history)
  octets_on_air station [] history in_it rests are = are
  octets_on_air station (octet ∷ octets) history in_it rests are =
      octets_on_air station octets (after_call given station (HostOctet octet) history) in_it (octet_rests station octet history rests) (octet_on_air station octet history in_it rests are)

  pub feed_on_air : (station : ℕ) (octets : List ℕ) (history : List Event) → is_in station given.stations ≡ true → (facts_at given station history).turn.doing ≡ Rests → AreOnAirFed history
      → AreOnAirFed (after_feed given station octets history)
  feed_on_air station [] history in_it rests are = are
  feed_on_air station (octet ∷ octets) history in_it rests are =
      let event = HostFed station (octet ∷ octets) in
      octets_on_air station (octet ∷ octets) (history ++ event ∷ []) in_it (ap (λ (f : Facts). f.turn.doing) (facts_event given station history event refl) ∙ rests)
      (on_air_event given history event (λ one. true) (λ one. None) (λ one. refl) (λ one handle. number_quiet one handle history event (λ links. refl)) are)

-- ---- a turn begins, or ends

pub begin_on_air : (given : Given) (station slot : ℕ) (on : Bool) (history : List Event) → is_in station given.stations ≡ true → (facts_at given station history).turn.doing ≡ Rests
    → (received : Option (List ℕ)) → received ≡ None → AreOnAirSo given history (λ one. true) (λ one. packet_received one history)
    → (handle : ℕ) (link : OpenLink) → link_at handle (facts_at given station (after_call given station (TurnBegins slot on) history)).links ≡ Some link
    → IsEndOnAir true received handle (facts_at given station (after_call given station (TurnBegins slot on) history)).turn link
    (number_at station handle (after_call given station (TurnBegins slot on) history)) (side_of station) (journal_of (after_call given station (TurnBegins slot on) history))
begin_on_air given station slot on history in_it rests received none are handle link at =
    let setup = setup_at given station in
    let facts = facts_at given station history in
    let step = TurnBegins slot on in
    let held = facts_after setup facts step in
    let begun = begins_under setup facts slot on handle link (own_at given station step history handle link at) in
    let number = number_at station handle history in
    own_sends given station step history received handle link begun.base none
    (number_called given station step history handle (begin_noted (OpensNone handle) (opening_none handle) setup slot on facts))
    (begun.is ∙ ap (λ n. sent_if (sends_under handle held.turn.doing) n begun.base) (sym (begins_slot setup slot on facts)))
    (base_on_air number (side_of station) (journal_of history) facts slot on handle held.turn.doing link begun
    (plain true (packet_received station history) handle facts.turn begun.link number (side_of station) (journal_of history) (ap (sends_under handle) rests)
    (λ listens. absurd (let h : true ≡ false = sym listens ∙ ap (listens_under handle) rests in absurd cc)) (are station handle begun.link in_it begun.was)))

pub end_on_air : (given : Given) (station : ℕ) (history : List Event) → is_in station given.stations ≡ true → ((handle : ℕ) → sends_under handle (facts_at given station history).turn.doing ≡ false)
    → packet_received station history ≡ None → (received : Option (List ℕ)) → received ≡ None → AreOnAirSo given history (λ one. true) (λ one. packet_received one history)
    → (handle : ℕ) (link : OpenLink) → link_at handle (facts_at given station (after_call given station TurnEnds history)).links ≡ Some link
    → IsEndOnAir true received handle (facts_at given station (after_call given station TurnEnds history)).turn link
    (number_at station handle (after_call given station TurnEnds history)) (side_of station) (journal_of (after_call given station TurnEnds history))
end_on_air given station history in_it silent heard received none are handle link at =
    let setup = setup_at given station in
    let facts = facts_at given station history in
    let was = end_under setup facts handle link (own_at given station TurnEnds history handle link at) in
    own_rests given station TurnEnds history received handle was.link link none
    (number_called given station TurnEnds history handle (end_noted (OpensNone handle) (opening_none handle).starts.feeds setup facts)) refl was.event
    (plain true (packet_received station history) handle facts.turn was.link (number_at station handle history) (side_of station) (journal_of history) (silent handle) (λ listens. heard)
    (are station handle was.link in_it was.was))

-- ---- a phase passes

-- nothing was sent or heard in an event that is not entered yet
base_quiet : (sends : Bool) (slot : ℕ) (base : OpenLink) → (facts_in (sent_if sends slot base)).event ≡ no_event → ((facts_in base).event.heard ≡ false) × ((facts_in base).event.more ≡ false)
base_quiet false slot base none = (ap (λ (e : ConnectionEvent). e.heard) none, ap (λ (e : ConnectionEvent). e.more) none)
base_quiet true slot base none =
    let event = (facts_in base).event in
    let sent = sym (event_after_sending slot base) ∙ none in
    (ap (λ (e : ConnectionEvent). e.heard) sent, neither event.more ((slot == event.slot) && more_sent (facts_in base)) (ap (λ (e : ConnectionEvent). e.more) sent))
  where
    neither : (one other : Bool) → (one || other) ≡ false → one ≡ false
    neither true other is = absurd cc
    neither false other is = refl

module _ (given : Given) (Q : Place → List Event → Type 0) (distinct : AreDistinct given.stations) (phases : ℕ) (done left : List ℕ) (station : ℕ) (history : List Event)
    (are : given.stations ≡ done ++ station ∷ left) (has : AreCountedAt given Q (AtListening phases done (station ∷ left)) history)
    (on_air : AreOnAirSo given history (λ one. is_in one done) (λ one. packet_received one history)) where
  abbrev received : Option (List ℕ)
  received = packet_received station history

  abbrev after : List Event
  after = after_call given station (step_of received) history

  abbrev facts : Facts
  facts = facts_at given station history

  abbrev held : Facts
  held = facts_after (setup_at given station) facts (step_of received)

  in_it : is_in station given.stations ≡ true
  in_it = among given.stations done left station are

  phased : PhasedBy given history station (at_stage (Within phases) (turns_begun history))
  phased =
      subst (λ b. PhasedBy given history station (if b then at_stage (Within (suc phases)) (turns_begun history) else at_stage (Within phases) (turns_begun history)))
      (not_before given.stations done left station distinct are) (phased_at given (AtListening phases done (station ∷ left)) history has.holds.hearing.stand station in_it)

  none_after : packet_received station after ≡ None
  none_after = received_by given station station (step_of received) history true (same_station station)

  -- its packet was on the air
  before_phase : (handle : ℕ) (link : OpenLink) → link_at handle facts.links ≡ Some link
      → IsEndOnAir false received handle facts.turn link (number_at station handle history) (side_of station) (journal_of history)
  before_phase handle link at =
      subst (λ b. IsEndOnAir b received handle facts.turn link (number_at station handle history) (side_of station) (journal_of history)) (not_before given.stations done left station distinct are)
      (on_air station handle link in_it at)

  -- a link whose event is not entered yet
  new_by : (handle : ℕ) (link base : OpenLink) → link ≡ sent_if (sends_under handle held.turn.doing) held.turn.slot base → (facts_in base).event.heard ≡ false → (facts_in base).event.more ≡ false
      → IsEndOnAir true (packet_received station after) handle (facts_at given station after).turn link (number_at station handle after) (side_of station) (journal_of after)
  new_by handle link base is unheard quiet =
      subst (λ (t : Turn). IsEndOnAir true (packet_received station after) handle t link (number_at station handle after) (side_of station) (journal_of after))
      (ap (λ (f : Facts). f.turn) (sym (own_facts given station (step_of received) history)))
      (from_base true (sends_under handle held.turn.doing) (packet_received station after) handle held.turn link base (number_at station handle after) (side_of station) (journal_of after) refl
      (λ listens. none_after) is (new_on_air (number_at station handle after) (side_of station) (journal_of after) (facts_in base).event unheard quiet))

  new_rests : (handle : ℕ) (link : OpenLink) → (facts_in link).event ≡ no_event → sends_under handle held.turn.doing ≡ false
      → IsEndOnAir true (packet_received station after) handle (facts_at given station after).turn link (number_at station handle after) (side_of station) (journal_of after)
  new_rests handle link none sends =
      new_by handle link link (ap (λ b. sent_if b held.turn.slot link) (sym sends)) (ap (λ (e : ConnectionEvent). e.heard) none) (ap (λ (e : ConnectionEvent). e.more) none)

  new_passed : (handle : ℕ) (link : OpenLink) → (facts_in link).event ≡ no_event
      → HasPassed (setup_at given station) facts (has_room (setup_at given station) facts) received handle held.turn.doing link
      → IsEndOnAir true (packet_received station after) handle (facts_at given station after).turn link (number_at station handle after) (side_of station) (journal_of after)
  new_passed handle link none (IsNew end made opened off) = new_rests handle link none (off_sends handle held.turn.doing off)
  new_passed handle link none (Stays was sends nothing listened) = new_rests handle link none sends
  new_passed handle link none (Takes base octets was some on same) =
      let taken = link_receiving (setup_at given station) handle (has_room (setup_at given station) facts) octets facts base in
      let sends = sends_under handle held.turn.doing in
      let quiet = base_quiet sends facts.turn.slot taken (ap (λ (l : OpenLink). (facts_in l).event) (sym same) ∙ none) in
      new_by handle link taken (same ∙ ap (λ n. sent_if sends n taken) (sym (phase_turn (setup_at given station) facts received).slot)) quiet.0 quiet.1

  passed : (handle : ℕ) (link : OpenLink) → number_at station handle after ≡ number_at station handle history
      → HasPassed (setup_at given station) facts (has_room (setup_at given station) facts) received handle held.turn.doing link
      → IsEndOnAir true (packet_received station after) handle (facts_at given station after).turn link (number_at station handle after) (side_of station) (journal_of after)
  passed handle link number (IsNew end made opened off) = new_rests handle link (new_event end link made) (off_sends handle held.turn.doing off)
  passed handle link number (Stays was none nothing listened) =
      own_rests given station (step_of received) history (packet_received station after) handle link link none_after number none refl
      (plain false received handle facts.turn link (number_at station handle history) (side_of station) (journal_of history) refl nothing (before_phase handle link was))
  passed handle link number (Takes base octets was some on same) =
      let room = has_room (setup_at given station) facts in
      let taken = link_receiving (setup_at given station) handle room octets facts base in
      let as_if = link_after (PacketReceived facts.turn.slot octets false) base in
      own_sends given station (step_of received) history (packet_received station after) handle link taken none_after number
      (same ∙ ap (λ n. sent_if (sends_under handle held.turn.doing) n taken) (sym (phase_turn (setup_at given station) facts received).slot))
      (event_on_air (number_at station handle history) (side_of station) (journal_of history) as_if taken (receiving_event (setup_at given station) handle room octets facts base ∙ room_event facts.turn.slot octets room false base)
      (not_sending false facts.turn.slot as_if (number_at station handle history) (side_of station) (journal_of history) refl
      (subst (λ (l : OpenLink). WasOnAir false facts.turn.slot l (number_at station handle history) (side_of station) (journal_of history))
      (λ i. taking_if (on i) (some i) facts.turn.slot base) (before_phase handle base was))))

  pub passes_on_air : (handle : ℕ) (link : OpenLink) → link_at handle (facts_at given station after).links ≡ Some link
      → IsEndOnAir true (packet_received station after) handle (facts_at given station after).turn link (number_at station handle after) (side_of station) (journal_of after)
  passes_on_air handle link at =
      passed_or_new given station history phased.uses.in_turn.listens
      (IsEndOnAir true (packet_received station after) handle (facts_at given station after).turn link (number_at station handle after) (side_of station) (journal_of after))
      handle link at (passed handle link)
      (λ new. new_passed handle link new.event
      (passes_under (setup_at given station) facts received handle link phased.uses.in_turn.listens (own_at given station (step_of received) history handle link at)))
