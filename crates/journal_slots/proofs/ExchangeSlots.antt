-- A link sends or listens only in the slot of the anchor of the event that it entered last, or where this event has a
-- second exchange; and the slot of that event is the anchor that the link has.
use Rattle.std.proofs.Common.{◌≡◌, ℕ, ◌≤◌, ◌==◌, ◌&&◌, ◌||◌, ◌⊎◌, inl, inr, Bool, true, false, not, Option, Some, None, List, [], ◌∷◌, ◌++◌, refl, sym, ap, subst, ◌∙◌, arith, if◌then◌else◌}
use Rattle.std.specs.List.{AllByRecursion}
use Rattle.std.specs.Option.{option_map}
use Rattle.std.proofs.lemmas.Bool.{and_parts, eqb-true}
use Rattle.ble_base.specs.declared.roles.Role.{Role}
use Rattle.data_pdu.specs.Header.{header_in}
use Rattle.instants.specs.Track.{TrackFacts, is_due, next_anchor_of, track_after_enter, track_changed, track_in_next, track_unchanged}
use Rattle.instants.specs.declared.track.Change.{Change}
use Rattle.link_changes.specs.InForce.{AsksMap}
use Rattle.journal_acks.specs.link_model.declared.events.ConnectionEvent.{ConnectionEvent}
use Rattle.journal_acks.specs.link_model.Events.{event_heard, event_sent}
use Rattle.journal_acks.specs.link_model.Setup.{Setup as EndSetup}
use Rattle.journal_acks.specs.link_model.Controls.{goes_on}
use Rattle.journal_acks.specs.link_model.End.{facts_after as end_facts_after, facts_of as end_facts}
use Rattle.journal_acks.specs.link_model.Entering.{facts_entered_if}
use Rattle.journal_acks.specs.link_model.Facts.{Facts as EndFacts}
use Rattle.journal_acks.specs.link_model.Packets.{good_pdu, is_forged, more_sent}
use Rattle.journal_acks.specs.link_model.Receiving.{facts_received}
use Rattle.journal_acks.specs.link_model.Step.{Step as EndStep, DataGiven, DataReported, EventEntered, PacketReceived, PacketSent, PduFixed, ProcedureAsked, WordsGiven}
use Rattle.journal_acks.specs.link_model.Times.{has_second_exchange}
use Rattle.journal_acks.specs.open_links.OpenLinks.{OpenLink, facts_in, in_event, link_after, link_at, new_link}
use Rattle.journal_acks.specs.open_links.procedure_values.declared.asks.Ask.TheVariants.{Map}
use Rattle.journal_acks.specs.open_links.Turns.{entered_if, enters_in, is_anchor, link_entered, wants_entering}
use Rattle.journal_acks.proofs.open_links.Anchors.{enters}
use Rattle.journal_acks.proofs.open_links.Unmoved.{entered_setup}
use Rattle.journal_acks.proofs.EntryNotes.{stays_put}
use Rattle.slot_plan.specs.Holding.{is_held_in, winner_of}
use Rattle.slot_plan.specs.declared.Activity.{Activity}
use Rattle.slot_plan.specs.declared.Activity.TheVariants.{Link, Advertise, Scan, Initiate}
use Rattle.journal_acks.specs.controller_model.declared.doing.Doing.TheVariants.{Rests}
use Rattle.journal_acks.specs.controller_model.Entering.{all_entered}
use Rattle.journal_acks.specs.controller_model.Facts.{Facts, Setup, first_facts}
use Rattle.journal_acks.specs.controller_model.Heard.{has_room, link_taken}
use Rattle.journal_acks.specs.controller_model.Links.{facts_ending}
use Rattle.journal_acks.specs.controller_model.Radio.{doing_held, doing_won, exchange_if, facts_entering, first_exchange, initiator_channel, plan_in}
use Rattle.journal_acks.specs.controller_model.Radio.{radio_served, scanner_channel, second_exchange, served, slots_since, turn_begins, winner_served}
use Rattle.journal_acks.specs.controller_model.Side.{facts_after}
use Rattle.journal_acks.specs.controller_model.Step.{TurnBegins}
use Rattle.journal_acks.proofs.controller_model.Always.{ending_is}
use Rattle.journal_acks.proofs.controller_model.Entries.{entered_track as end_track}
use Rattle.journal_acks.proofs.controller_model.Asked.{IsAskedStep}
use Rattle.journal_acks.specs.run_model.Run.{step_of}
use Rattle.journal_acks.proofs.run_laws.Agreed.{step_facts}
use Rattle.journal_acks.proofs.run_laws.OpenSteps.{AsksForMap, EachOpen, IsKeptByHosts, IsKeptOpen, IsKeptServed, KeepsAsked, MayOpen, begin_open, end_open, none_open, octet_open, phase_open}
use Rattle.journal_acks.proofs.run_laws.TurnPlaces.{Between, IsTurned, Stage}
use Rattle.journal_acks.proofs.run_laws.TurnSteps.{begins_slot, phase_turn}
use Rattle.journal_acks.proofs.link_calls.EnteredLinks.{open_in_event}
use Rattle.journal_acks.proofs.link_calls.Exchanging.{wants_anchor}
use Rattle.journal_acks.proofs.link_calls.HostSteps.{asked_leaves}
use Rattle.journal_acks.proofs.link_calls.HeardSteps.{fixed_same, forged_event, received_same, sent_in}
use Rattle.journal_acks.specs.link_calls.Phases.{HasPassed, IsNew, Stays, Takes, link_receiving}
use Rattle.journal_acks.proofs.link_calls.LinkCalls.{begins_under, passes_under, receiving_event}
use Rattle.journal_acks.specs.link_calls.Turns.{fixed_if}
use Rattle.journal_acks.proofs.link_calls.LinkPhases.{IsPhased, phased_first, phased_kept}
use Rattle.journal_acks.specs.link_calls.Uses.{sends_under}
use Rattle.journal_acks.proofs.link_calls.RadioUses.{Listening, Sending, Uses, advertises_off, exchange_uses, initiates_off, no_link, off_uses, rests_uses, scans_off, winner_wants}
use Rattle.journal_acks.proofs.link_calls.UnderHandles.{map_under}
use Rattle.journal_acks.specs.link_calls.Turns.{sent_if}

-- ---- the event that a link entered last

-- its slot is that of its anchor; and each map that the host asked for is a channel map
pub record IsOnTrack (link : OpenLink) : Type 0 where
  pub anchor : 1 ≤ (facts_in link).control.track.entered → (facts_in link).event.slot ≡ (facts_in link).control.track.anchor
  pub maps : AllByRecursion AsksMap link.past

-- a good packet was received in the slot of its anchor, and a packet there says that more waits
abbrev pub goes_further : ConnectionEvent → Bool
goes_further event = event.heard && event.more

-- it is the slot of this event, or the event goes further
abbrev pub IsInExchange : ℕ → OpenLink → Type 0
IsInExchange slot link = (slot ≡ (facts_in link).event.slot) ⊎ (goes_further (facts_in link).event ≡ true)

pub continues_further : (facts : EndFacts) → has_second_exchange facts ≡ true → goes_further facts.event ≡ true
continues_further facts has =
    (and_parts (goes_further facts.event) (not facts.lengths.long && not facts.lengths.changed) has).0

-- ---- its packets

abbrev pub event_received : ℕ → Option (List ℕ) → ConnectionEvent → ConnectionEvent
event_received slot None event = event
event_received slot (Some pdu) event = event_heard slot (header_in pdu).md event

received_event : (role : Role) (slot : ℕ) (room : Bool) (found : Option (List ℕ)) (facts : EndFacts)
    → (facts_received role slot room found facts).event ≡ event_received slot found facts.event
received_event role slot room None facts = refl
received_event role slot room (Some pdu) facts = (received_same role slot room pdu facts).event

-- ---- it is in the same event later

record IsLater (one other : OpenLink) : Type 0 where
  slot : (facts_in other).event.slot ≡ (facts_in one).event.slot
  further : goes_further (facts_in one).event ≡ true → goes_further (facts_in other).event ≡ true

later_by : (one other : OpenLink) → (facts_in other).event ≡ (facts_in one).event → IsLater one other
later_by one other same = record {
  slot = ap (λ (e : ConnectionEvent). e.slot) same;
  further = λ goes. ap goes_further same ∙ goes;
}

later_same : (link : OpenLink) → IsLater link link
later_same link = later_by link link refl

later_then : (one two three : OpenLink) → IsLater one two → IsLater two three → IsLater one three
later_then one two three first next = record { slot = next.slot ∙ first.slot; further = λ goes. next.further (first.further goes) }

later_is : (one other after : OpenLink) → after ≡ other → IsLater one other → IsLater one after
later_is one other after is later = subst (IsLater one) (sym is) later

later_exchange : (slot : ℕ) (one other : OpenLink) → IsLater one other → IsInExchange slot one → IsInExchange slot other
later_exchange slot one other later (inl is) = inl (is ∙ sym later.slot)
later_exchange slot one other later (inr goes) = inr (later.further goes)

more_heard : (heard more first other : Bool) → (heard && more) ≡ true → ((heard || first) && (more || other)) ≡ true
more_heard true true first other is = refl
more_heard true false first other is = absurd cc
more_heard false more first other is = absurd cc

more_sent_later : (heard more other : Bool) → (heard && more) ≡ true → (heard && (more || other)) ≡ true
more_sent_later true true other is = refl
more_sent_later true false other is = absurd cc
more_sent_later false more other is = absurd cc

-- what it is after a step
event_after : (link : OpenLink) (step : EndStep) → (facts_in (link_after step link)).event ≡ (end_facts_after link.setup (facts_in link) step).event
event_after link step = ap (λ (f : EndFacts). f.event) (step_facts link step)

pub event_after_sending : (slot : ℕ) (link : OpenLink)
    → (facts_in (link_after (PacketSent slot) link)).event ≡ event_sent slot (more_sent (facts_in link)) (facts_in link).event
event_after_sending slot link = event_after link (PacketSent slot) ∙ (sent_in slot (facts_in link)).event

pub event_after_receiving : (slot : ℕ) (octets : List ℕ) (room : Bool) (link : OpenLink)
    → (facts_in (link_after (PacketReceived slot octets room) link)).event
    ≡ event_received slot (good_pdu link.setup (facts_in link) octets) (facts_in link).event
event_after_receiving slot octets room link =
    let pdu = good_pdu link.setup (facts_in link) octets in
    event_after link (PacketReceived slot octets room)
    ∙ forged_event (is_forged link.setup (facts_in link) octets) (facts_received link.setup.link.role slot room pdu (facts_in link))
    ∙ received_event link.setup.link.role slot room pdu (facts_in link)

pub event_after_fixing : (link : OpenLink) → (facts_in (link_after PduFixed link)).event ≡ (facts_in link).event
event_after_fixing link = event_after link PduFixed ∙ (fixed_same (facts_in link)).event

sent_later : (sends : Bool) (slot : ℕ) (link : OpenLink) → IsLater link (sent_if sends slot link)
sent_later true slot link =
    let facts = facts_in link in
    let event = facts.event in record {
      slot = ap (λ (e : ConnectionEvent). e.slot) (event_after_sending slot link);
      further = λ goes. ap goes_further (event_after_sending slot link)
          ∙ more_sent_later event.heard event.more ((slot == event.slot) && more_sent facts) goes;
    }
sent_later false slot link = later_same link

fixed_later : (fixes : Bool) (link : OpenLink) → IsLater link (fixed_if fixes link)
fixed_later true link = later_by link (link_after PduFixed link) (event_after_fixing link)
fixed_later false link = later_same link

received_slot : (slot : ℕ) (found : Option (List ℕ)) (event : ConnectionEvent) → (event_received slot found event).slot ≡ event.slot
received_slot slot None event = refl
received_slot slot (Some pdu) event = refl

received_further : (slot : ℕ) (found : Option (List ℕ)) (event : ConnectionEvent) → goes_further event ≡ true → goes_further (event_received slot found event) ≡ true
received_further slot None event goes = goes
received_further slot (Some pdu) event goes = more_heard event.heard event.more (slot == event.slot) _ goes

received_later : (setup : Setup) (handle : ℕ) (room : Bool) (octets : List ℕ) (facts : Facts) (link : OpenLink) → IsLater link (link_receiving setup handle room octets facts link)
received_later setup handle room octets facts link =
    let slot = facts.turn.slot in
    let found = good_pdu link.setup (facts_in link) octets in
    let now = receiving_event setup handle room octets facts link ∙ event_after_receiving slot octets room link in record {
      slot = ap (λ (e : ConnectionEvent). e.slot) now ∙ received_slot slot found (facts_in link).event;
      further = λ goes. ap goes_further now ∙ received_further slot found (facts_in link).event goes;
    }

-- but for when it had the radio last
served_later : (one other : OpenLink) → other.setup ≡ one.setup → other.past ≡ one.past → IsLater one other
served_later one other setup past = later_by one other (λ i. (end_facts (setup i) (past i)).event)

-- ---- the anchor of its event, step by step

one_more_map : (past : List EndStep) (step : EndStep) → AllByRecursion AsksMap past → AsksMap step → AllByRecursion AsksMap (past ++ step ∷ [])
one_more_map [] step are is = (is, tt)
one_more_map (first ∷ past) step are is = (are.0, one_more_map past step are.1 is)

-- a step that enters no event leaves the event where it is
track_stays : (link : OpenLink) (step : EndStep) → enters step ≡ false → (facts_in (link_after step link)).event.slot ≡ (facts_in link).event.slot → AsksMap step
    → IsOnTrack link → IsOnTrack (link_after step link)
track_stays link step none slot map is =
    let same = step_facts link step in
    let place = stays_put link.setup (facts_in link) step none in record {
      anchor = λ some.
          slot ∙ is.anchor (subst (λ n. 1 ≤ n) (ap (λ (f : EndFacts). f.control.track.entered) same ∙ place.entered) some)
          ∙ sym (ap (λ (f : EndFacts). f.control.track.anchor) same ∙ place.anchor);
      maps = one_more_map link.past step is.maps map;
    }

slot_after : (link : OpenLink) (step : EndStep) → (end_facts_after link.setup (facts_in link) step).event ≡ (facts_in link).event
    → (facts_in (link_after step link)).event.slot ≡ (facts_in link).event.slot
slot_after link step same = ap (λ (e : ConnectionEvent). e.slot) (event_after link step ∙ same)

track_hosts : IsKeptByHosts IsOnTrack
track_hosts = record {
  given = λ start body link is. track_stays link (DataGiven start body) refl (slot_after link (DataGiven start body) refl) tt is;
  reported = λ link is. track_stays link DataReported refl (slot_after link DataReported refl) tt is;
}

-- a step that a host makes by a command
asked_enters : (step : EndStep) → IsAskedStep step → enters step ≡ false
asked_enters (EventEntered slot) by_host = absurd by_host
asked_enters other by_host = refl

asked_map : (step : EndStep) → AsksForMap step → AsksMap step
asked_map (ProcedureAsked (Map map)) is = is
asked_map other is = tt

track_asked : KeepsAsked IsOnTrack
track_asked step link well is =
    track_stays link step (asked_enters step well.by_host) (slot_after link step (asked_leaves link.setup (facts_in link) step well.by_host).event)
    (asked_map step well.map) is

track_served : IsKeptServed IsOnTrack
track_served = record {
  hosts = track_hosts;
  served = λ slot link is. record { anchor = is.anchor; maps = is.maps };
  fixed = λ link is. track_stays link PduFixed refl (ap (λ (e : ConnectionEvent). e.slot) (event_after_fixing link)) tt is;
  sent = λ slot link is. track_stays link (PacketSent slot) refl (ap (λ (e : ConnectionEvent). e.slot) (event_after_sending slot link)) tt is;
}

track_open : IsKeptOpen IsOnTrack
track_open = record {
  serving = track_served;
  received = λ slot octets room link is.
      track_stays link (PacketReceived slot octets room) refl
      (ap (λ (e : ConnectionEvent). e.slot) (event_after_receiving slot octets room link)
      ∙ received_slot slot (good_pdu link.setup (facts_in link) octets) (facts_in link).event) tt is;
  worded = λ skd_s iv_s link is. track_stays link (WordsGiven skd_s iv_s) refl (slot_after link (WordsGiven skd_s iv_s) refl) tt is;
  answered = track_asked;
}

new_track : (end : EndSetup) → IsOnTrack (new_link end)
unfolding end_facts
new_track end = record { anchor = λ some. absurd (let none : 1 ≤ 0 = some in omega (arith, none)); maps = tt }

-- ---- a link that enters its event

anchor_entered : (t : TrackFacts) → (track_after_enter t).anchor ≡ next_anchor_of t
anchor_entered t = by t.waits
  where
    in_next : (change : Change) (due : Bool) → (if due then track_changed change t else track_unchanged t).anchor ≡ next_anchor_of t
    in_next change true = refl
    in_next change false = refl

    by : (waits : Option Change) → (track_in_next waits t).anchor ≡ next_anchor_of t
    by None = refl
    by (Some change) = in_next change (is_due change t.entered)

module _ (slot : ℕ) (link : OpenLink) (goes : goes_on (facts_in link) ≡ true) where
  entry_is : facts_in (link_after (EventEntered slot) link) ≡ facts_entered_if true link.setup slot (facts_in link)
  entry_is = step_facts link (EventEntered slot) ∙ ap (λ b. facts_entered_if b link.setup slot (facts_in link)) goes

  entry_slot : (facts_in (link_after (EventEntered slot) link)).event.slot ≡ slot
  entry_slot = ap (λ (f : EndFacts). f.event.slot) entry_is

  entry_anchor : (facts_in (link_after (EventEntered slot) link)).control.track.anchor ≡ next_anchor_of (facts_in link).control.track
  entry_anchor =
      ap (λ (f : EndFacts). f.control.track.anchor) entry_is
      ∙ ap (λ (t : TrackFacts). t.anchor) (end_track slot (facts_in link) goes)
      ∙ anchor_entered (facts_in link).control.track

entered_slot : (enters : Bool) (slot : ℕ) (link : OpenLink) → enters_in slot link ≡ enters → enters ≡ true → slot ≡ (facts_in (entered_if enters slot link)).event.slot
entered_slot true slot link is enters = sym (entry_slot slot link (and_parts (goes_on (facts_in link)) (is_anchor slot link) is).0)
entered_slot false slot link is enters = absurd cc

entered_track : (enters : Bool) (slot : ℕ) (link : OpenLink) → enters_in slot link ≡ enters → IsOnTrack link → IsOnTrack (entered_if enters slot link)
entered_track false slot link is on = on
entered_track true slot link is on =
    let both = and_parts (goes_on (facts_in link)) (is_anchor slot link) is in record {
      anchor = λ some.
          entry_slot slot link both.0 ∙ sym (eqb-true (next_anchor_of (facts_in link).control.track) slot both.1)
          ∙ sym (entry_anchor slot link both.0);
      maps = one_more_map link.past (EventEntered slot) on.maps tt;
    }

-- ---- a turn begins

-- the links before they enter their events, and one of them
module _ (slot handle : ℕ) (begun : Facts) (link : OpenLink) (at : link_at handle begun.links ≡ Some link) where
  abbrev now : OpenLink
  now = link_entered slot link

  entered_is : (found : Option OpenLink) (other : ℕ) → other ≡ handle → link_at other (facts_entering slot begun).links ≡ found → found ≡ Some now
  entered_is found other same is =
      sym is ∙ ap (λ n. link_at n (all_entered slot begun.links)) same ∙ map_under (option_map (link_entered slot)) refl 0 handle begun.links ∙ ap (option_map (link_entered slot)) at

  won_exchange : (activity : Activity) → (activity ≡ Link handle → wants_entering slot link ≡ true) → Uses handle (doing_won slot activity (facts_entering slot begun)) → IsInExchange slot now
  won_exchange (Link other) wants uses = by (in_event (link_at other (facts_entering slot begun).links)) uses
    where
      by : (found : Option OpenLink) → Uses handle (first_exchange other found) → IsInExchange slot now
      by None uses = off_uses handle Rests _ refl uses
      by (Some one) uses =
          inl (entered_slot (enters_in slot link) slot link refl
          (wants_anchor (enters_in slot link) slot link refl (wants (ap Link (exchange_uses one.setup.link.role handle other uses)))))
  won_exchange Advertise wants uses = off_uses handle _ _ (advertises_off 0 begun.advertising.on) uses
  won_exchange Scan wants uses = off_uses handle _ _ (scans_off (scanner_channel slot begun.scanning.on)) uses
  won_exchange Initiate wants uses = off_uses handle _ _ (initiates_off (initiator_channel slot begun.initiator)) uses

  held_exchange : (activity : Activity) → Uses handle (doing_held slot activity (facts_entering slot begun)) → IsInExchange slot now
  held_exchange (Link other) uses = by (in_event (link_at other (facts_entering slot begun).links)) refl uses
    where
      if_by : (one : OpenLink) (continues : Bool) → has_second_exchange (facts_in one) ≡ continues → link_at other (facts_entering slot begun).links ≡ Some one
          → Uses handle (exchange_if continues one.setup.link.role other) → IsInExchange slot now
      if_by one true is found uses =
          let some : Some one ≡ Some now = entered_is (Some one) other (exchange_uses one.setup.link.role handle other uses) found in
          let equal : one ≡ now = cc in
          inr (ap (λ (l : OpenLink). goes_further (facts_in l).event) (sym equal) ∙ continues_further (facts_in one) is)
      if_by one false is found uses = off_uses handle Rests _ refl uses

      by : (found : Option OpenLink) → in_event (link_at other (facts_entering slot begun).links) ≡ found → Uses handle (second_exchange other found) → IsInExchange slot now
      by None is uses = off_uses handle Rests _ refl uses
      by (Some one) is uses = if_by one (has_second_exchange (facts_in one)) refl (open_in_event (link_at other (facts_entering slot begun).links) one is) uses
  held_exchange Advertise uses = off_uses handle _ _ (advertises_off (slots_since slot begun.radio.hold) begun.advertising.on) uses
  held_exchange Scan uses = off_uses handle Rests _ refl uses
  held_exchange Initiate uses = off_uses handle Rests _ refl uses

  winner_exchange : (winner : Option Activity) → (winner ≡ Some (Link handle) → wants_entering slot link ≡ true) → Uses handle (winner_served slot winner (facts_entering slot begun)).next
      → IsInExchange slot now
  winner_exchange None wants uses = off_uses handle Rests _ refl uses
  winner_exchange (Some activity) wants uses = won_exchange activity (λ same. wants (ap Some same)) uses

  radio_exchange : (held : Bool) (winner : Option Activity) → (winner ≡ Some (Link handle) → wants_entering slot link ≡ true)
      → Uses handle (radio_served held slot winner (facts_entering slot begun)).next → IsInExchange slot now
  radio_exchange true winner wants uses = held_exchange begun.radio.holder uses
  radio_exchange false winner wants uses = winner_exchange winner wants uses

  served_exchange : (on : Bool) → Uses handle (served on slot (winner_of (plan_in slot begun) slot) (facts_entering slot begun)).next → IsInExchange slot now
  served_exchange false uses = off_uses handle Rests _ refl uses
  served_exchange true uses =
      radio_exchange (is_held_in begun.radio.hold slot) (winner_of (plan_in slot begun) slot) (λ is. winner_wants slot handle begun link (is_held_in begun.radio.hold slot) is at) uses

-- ---- at any time

pub record AreInExchanges (setup : Setup) (stage : Stage) (begun : ℕ) (facts : Facts) : Type 0 where
  pub phased : IsPhased setup stage begun facts
  pub tracks : EachOpen IsOnTrack facts.links
  pub in_exchange : (handle : ℕ) (link : OpenLink) → link_at handle facts.links ≡ Some link → Uses handle facts.turn.doing → IsInExchange facts.turn.slot link

begun_exchange : (setup : Setup) (slot : ℕ) (on : Bool) (facts : Facts) (handle : ℕ) (after : OpenLink)
    → link_at handle (facts_after setup facts (TurnBegins slot on)).links ≡ Some after → Uses handle (facts_after setup facts (TurnBegins slot on)).turn.doing
    → IsInExchange (facts_after setup facts (TurnBegins slot on)).turn.slot after
begun_exchange setup slot on facts handle after is uses =
    let next = facts_after setup facts (TurnBegins slot on) in
    let has = begins_under setup facts slot on handle after is in
    let begun = turn_begins slot (facts_ending slot facts) in
    let entered = link_entered slot has.link in
    let at : link_at handle begun.links ≡ Some has.link = ap (λ (ended : Facts). link_at handle ended.links) (ending_is slot facts) ∙ has.stayed in
    let setup_is : has.entered.setup ≡ entered.setup = has.setup_is ∙ sym (entered_setup slot has.link) in
    let base = later_is entered (fixed_if has.fixes has.entered) has.base has.base_is
    (later_then entered has.entered (fixed_if has.fixes has.entered) (served_later entered has.entered setup_is has.past_is) (fixed_later has.fixes has.entered)) in
    let later = later_is entered (sent_if (sends_under handle next.turn.doing) slot has.base) after has.is
    (later_then entered has.base (sent_if (sends_under handle next.turn.doing) slot has.base) base (sent_later (sends_under handle next.turn.doing) slot has.base)) in
    subst (λ n. IsInExchange n after) (sym (begins_slot setup slot on facts))
    (later_exchange slot entered after later (served_exchange slot handle begun has.link at on uses))

passed_exchange : (setup : Setup) (received : Option (List ℕ)) (facts : Facts)
    → ((handle : ℕ) (link : OpenLink) → link_at handle facts.links ≡ Some link → Uses handle facts.turn.doing → IsInExchange facts.turn.slot link)
    → (handle : ℕ) (link : OpenLink) → HasPassed setup facts (has_room setup facts) received handle (facts_after setup facts (step_of received)).turn.doing link
    → Uses handle (facts_after setup facts (step_of received)).turn.doing → IsInExchange (facts_after setup facts (step_of received)).turn.slot link
passed_exchange setup received facts uses handle link (IsNew end made opened off) =
    λ does. off_uses handle (facts_after setup facts (step_of received)).turn.doing _ off does
passed_exchange setup received facts uses handle link (Stays was none nothing listened) =
    λ does. subst (λ n. IsInExchange n link) (sym (phase_turn setup facts received).slot) (by does)
  where
    by : Uses handle (facts_after setup facts (step_of received)).turn.doing → IsInExchange facts.turn.slot link
    by (Sending on) = absurd (let h : true ≡ false = sym on ∙ none in absurd cc)
    by (Listening on) = uses handle link was (Sending (listened on))
passed_exchange setup received facts uses handle link (Takes base octets was some on same) =
    let after = facts_after setup facts (step_of received) in
    let slot = facts.turn.slot in
    let sends = sends_under handle after.turn.doing in
    let taken = link_receiving setup handle (has_room setup facts) octets facts base in
    let later = later_is base (sent_if sends slot taken) link same
    (later_then base taken (sent_if sends slot taken) (received_later setup handle (has_room setup facts) octets facts base) (sent_later sends slot taken)) in
    λ does. subst (λ n. IsInExchange n link) (sym (phase_turn setup facts received).slot)
    (later_exchange slot base link later (uses handle base was (Listening on)))

tracks_may_open : (facts : Facts) → MayOpen IsOnTrack track_open facts
tracks_may_open facts = record {
  made = λ channel link doing. new_track (record { link = link; opened = facts.turn.slot });
  taken = λ pdu on fields handle takes. new_track (record { link = link_taken facts.view on.params.own pdu fields handle; opened = facts.turn.slot });
}

pub exchanges_kept : (setup : Setup) → IsTurned setup (AreInExchanges setup)
exchanges_kept setup = record {
  feeds = λ begun octet facts is.
      let phased = (phased_kept setup).feeds begun octet facts is.phased in record {
        phased = phased;
        tracks = octet_open IsOnTrack track_hosts track_asked setup facts octet is.tracks;
        in_exchange = λ handle link at uses. rests_uses handle _ _ phased.phase uses;
      };
  begins = λ begun on facts is. record {
    phased = (phased_kept setup).begins begun on facts is.phased;
    tracks = begin_open IsOnTrack IsOnTrack track_served setup begun on facts (λ link on. entered_track (enters_in begun link) begun link refl on) is.tracks;
    in_exchange = begun_exchange setup begun on facts;
  };
  passes = λ phases begun received facts is. record {
    phased = (phased_kept setup).passes phases begun received facts is.phased;
    tracks = phase_open IsOnTrack track_open setup facts received (tracks_may_open facts) is.tracks;
    in_exchange = λ handle link at.
        passed_exchange setup received facts is.in_exchange handle link (passes_under setup facts received handle link is.phased.uses.in_turn.listens at);
  };
  ends = λ begun facts is. record {
    phased = (phased_kept setup).ends begun facts is.phased;
    tracks = end_open IsOnTrack track_hosts setup facts is.tracks;
    in_exchange = λ handle link at uses. rests_uses handle Rests _ refl uses;
  };
}

pub exchanges_first : (setup : Setup) → AreInExchanges setup Between 0 (first_facts setup)
exchanges_first setup = record {
  phased = phased_first setup;
  tracks = none_open IsOnTrack setup.links;
  in_exchange = λ handle link at uses. no_link setup handle link _ at;
}
