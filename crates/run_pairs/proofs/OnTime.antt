-- Each open end enters its events in the slots of their anchors, in every run.
use Rattle.std.proofs.Common.{◌≡◌, ℕ, suc, ◌+◌, ◌<◌, ◌≤◌, ◌==◌, Bool, true, false, Option, Some, None, List, [], ◌∷◌, ◌++◌, refl, sym, ap, subst, ◌∙◌, arith}
use Rattle.std.specs.Prelude.{IfSome, ◌&&◌, nat_lt, if◌then◌else◌}
use Rattle.std.proofs.lemmas.Bool.{eqb-false, eqb-true}
use Rattle.adv_pdu.specs.Ranges.{IsInRange}
use Rattle.instants.specs.Track.{TrackFacts, is_due, next_anchor_of, spacing_of, track_after_enter, track_changed, track_in_next, track_unchanged}
use Rattle.instants.specs.declared.track.Change.{Change}
use Rattle.link_calls.specs.run_laws.control_model.Control.{Answers, Asks, Control, Disconnects, Owes}
use Rattle.link_calls.specs.link_model.declared.events.ConnectionEvent.{ConnectionEvent}
use Rattle.link_calls.specs.link_model.Controls.{goes_on, is_quiet_now}
use Rattle.link_calls.specs.link_model.Data.{is_control}
use Rattle.link_calls.specs.link_model.End.{facts_after as end_after, facts_of as end_facts}
use Rattle.link_calls.specs.link_model.Entering.{control_entered, facts_entered, facts_entered_if}
use Rattle.link_calls.specs.link_model.Facts.{Facts as EndFacts}
use Rattle.link_calls.specs.link_model.Hosts.{asked_unless, is_to_come}
use Rattle.link_calls.specs.link_model.Packets.{good_pdu, is_forged}
use Rattle.link_calls.specs.link_model.Receiving.{facts_forged_if, facts_received}
use Rattle.link_calls.specs.link_model.Sending.{control_gone_if, takes_leave}
use Rattle.link_calls.specs.link_model.Setup.{Setup as EndSetup}
use Rattle.link_calls.specs.link_model.Step.{Step as EndStep, DataGiven, DataReported, Disconnected, EventEntered, KeyAnswered, PacketReceived, PacketSent, PduFixed, ProcedureAsked, RequestAnswered, WordsGiven}
use Rattle.link_calls.specs.open_links.Data.{complete_in}
use Rattle.link_calls.specs.open_links.OpenLinks.{OpenLink, facts_in, link_after, link_at, new_link}
use Rattle.link_calls.specs.open_links.Turns.{entered_if, is_anchor, link_entered}
use Rattle.link_calls.proofs.control_model.Moving.{enters_track, table_alone}
use Rattle.link_calls.proofs.link_model.Views.{entered_view}
use Rattle.link_calls.proofs.open_links.Anchors.{IsInPlace, enters, moves_on, next_after_enter, sent_later, stays_in_place, went_on}
use Rattle.link_calls.proofs.open_links.OnTime.{fixed_track}
use Rattle.link_calls.proofs.open_links.Unmoved.{entered_setup}
use Rattle.link_calls.proofs.open_links.Intervals.{HasIntervals, has_intervals, past_indicates}
use Rattle.link_calls.specs.controller_model.declared.doing.Doing.{Doing}
use Rattle.link_calls.specs.controller_model.Facts.{Setup, Facts, Radio, first_facts}
use Rattle.link_calls.specs.controller_model.Heard.{has_room}
use Rattle.link_calls.specs.controller_model.Side.{facts_after}
use Rattle.link_calls.specs.controller_model.Step.{TurnBegins}
use Rattle.link_calls.specs.Hosts.{HasHeardHost, GetsData, IsAsked, Unchanged}
use Rattle.link_calls.specs.Phases.{HasPassed, IsNew, Stays, Takes, link_worded, refusal_at, refused_if}
use Rattle.link_calls.specs.Ranges.{HasRanges}
use Rattle.link_calls.specs.Turns.{fixed_if, sent_if}
use Rattle.link_calls.specs.Uses.{listens_under, sends_under}
use Rattle.link_calls.specs.run_model.Feeding.{AreDistinct}
use Rattle.link_calls.specs.run_model.History.{Event, past_of}
use Rattle.link_calls.specs.run_model.Run.{Given, facts_at, history_of, run_of, setup_at, step_of}
use Rattle.link_calls.proofs.run_model.LinkEnds.{AreTaken}
use Rattle.link_calls.proofs.run_model.Stations.{is_in}
use Rattle.link_calls.proofs.run_laws.Agreed.{step_facts}
use Rattle.link_calls.proofs.run_laws.InRange.{AreRanged, ranged_first, ranged_kept, ranges_before}
use Rattle.link_calls.proofs.controller_model.Asked.{IsAskedStep}
use Rattle.link_calls.proofs.controller_model.Entries.{none_of, owing_track}
use Rattle.link_calls.proofs.run_laws.OpenSteps.{open_has}
use Rattle.link_calls.proofs.run_laws.TurnPlaces.{Between, IsTurned, Stage, Within, stands_in_run, turned}
use Rattle.link_calls.proofs.Exchanging.{AfterAnchor, AtAnchor, IsInSlot}
use Rattle.link_calls.proofs.HeardSteps.{fixed_same, received_same, sent_in}
use Rattle.link_calls.proofs.HostSteps.{asked_is_well, asked_leaves}
use Rattle.link_calls.proofs.LinkCalls.{begins_under, phase_under}
use Rattle.link_calls.proofs.RadioUses.{Listening, no_link}
use Rattle.link_calls.proofs.UnderHandles.{ended_under, host_under}
use Rattle.run_pairs.specs.OnTime.{IsOnTrack}
use Rattle.link_calls.proofs.AtOnce.{IsRefusal, refusal_asks, refusal_is}
use Rattle.link_calls.proofs.Worded.{each_worded, worded_setup}
use Rattle.run_pairs.proofs.AtOnce.{control_keyed, key_control}
use Rattle.run_pairs.proofs.Worded.{worded_slot}
use Rattle.run_pairs.proofs.OneSide.{IsSetUp, StationAt, station_first, station_kept}

-- ---- an end before a slot

-- it is on its track, and the event that it entered last is in the slot of its anchor
record IsTimed (slot : ℕ) (facts : EndFacts) : Type 0 where
  on_track : IsOnTrack slot facts
  event : 1 ≤ facts.control.track.entered → facts.event.slot ≡ facts.control.track.anchor

-- ---- steps in which it enters no event

module _ (slot : ℕ) (link : OpenLink) (step : EndStep) (none : enters step ≡ false) where
  abbrev held : EndFacts
  held = facts_in link

  abbrev after : EndFacts
  after = end_after link.setup held step

  place : IsInPlace held.control.track after.control.track
  place = stays_in_place link.setup held step none

  went : goes_on after ≡ true → goes_on held ≡ true
  went = went_on link.setup held step

  -- if its event stays in that slot, and the next anchor is where it was or later
  stays_timed : after.event.slot ≡ held.event.slot → (goes_on after ≡ true → slot ≤ next_anchor_of after.control.track) → IsTimed slot held → IsTimed slot after
  stays_timed same next is = record {
    on_track = record {
      last = λ some. subst (λ n. n < slot) (sym place.anchor) (is.on_track.last (subst (λ n. 1 ≤ n) place.entered some));
      next = next;
    };
    event = λ some. same ∙ is.event (subst (λ n. 1 ≤ n) place.entered some) ∙ sym place.anchor;
  }

  -- a step of the control part that leaves the track
  track_stays : after.event.slot ≡ held.event.slot → after.control.track ≡ held.control.track → IsTimed slot held → IsTimed slot after
  track_stays same track is =
      stays_timed same
      (λ goes. subst (λ (t : TrackFacts). slot ≤ next_anchor_of t) (sym track) (is.on_track.next (went goes))) is

-- a host
key_track : (key : Option (List ℕ)) (facts : EndFacts) → (control_keyed key facts).track ≡ facts.control.track
key_track key facts = key_control facts (λ (c : Control). c.track ≡ facts.control.track) refl (λ ctrl c is. table_alone c (Owes ctrl) refl ∙ is) key

asked_track : (setup : EndSetup) (facts : EndFacts) (step : EndStep) → IsAskedStep step → (end_after setup facts step).control.track ≡ facts.control.track
asked_track setup facts (ProcedureAsked ask) by_host = by (is_to_come ask facts)
  where
    by : (comes : Bool) → (asked_unless comes ask facts).control.track ≡ facts.control.track
    by true = refl
    by false = table_alone facts.control (Asks ask) refl
asked_track setup facts (RequestAnswered answer) by_host = table_alone facts.control (Answers answer) refl
asked_track setup facts (KeyAnswered key slot) by_host = key_track key facts
asked_track setup facts (Disconnected reason slot) by_host = table_alone facts.control (Disconnects reason) refl
asked_track setup facts (DataGiven start body) by_host = absurd by_host
asked_track setup facts other by_host = absurd by_host

asked_no_entry : (step : EndStep) → IsAskedStep step → enters step ≡ false
asked_no_entry (ProcedureAsked ask) by_host = refl
asked_no_entry (RequestAnswered answer) by_host = refl
asked_no_entry (KeyAnswered key slot) by_host = refl
asked_no_entry (Disconnected reason slot) by_host = refl
asked_no_entry (DataGiven start body) by_host = refl
asked_no_entry other by_host = absurd by_host

asked_timed : (slot : ℕ) (link : OpenLink) (step : EndStep) → IsAskedStep step → IsTimed slot (facts_in link)
    → IsTimed slot (end_after link.setup (facts_in link) step)
asked_timed slot link step by_host is =
    track_stays slot link step (asked_no_entry step by_host)
    (ap (λ (e : ConnectionEvent). e.slot) (asked_leaves link.setup (facts_in link) step by_host).event) (asked_track link.setup (facts_in link) step by_host) is

fixed_timed : (slot : ℕ) (link : OpenLink) → IsTimed slot (facts_in link) → IsTimed slot (end_after link.setup (facts_in link) PduFixed)
fixed_timed slot link is =
    let facts = facts_in link in
    track_stays slot link PduFixed refl (ap (λ (e : ConnectionEvent). e.slot) (fixed_same facts).event)
    (fixed_track (is_control facts.outgoing.fixed) facts) is

-- it sends: an indication that it sends moves its next anchor to a later slot, if at all
gone_later : (leaves : Bool) (now : ℕ) (link : OpenLink) → IsInRange link.setup.link.fields → HasRanges link
    → next_anchor_of (facts_in link).control.track ≤ next_anchor_of (control_gone_if leaves now (facts_in link)).control.track
gone_later true now link fields ranges =
    let facts = facts_in link in
    sent_later facts.control now (is_quiet_now facts) (past_indicates link.setup link.past fields ranges.asks)
gone_later false now link fields ranges = omega arith

sent_timed : (slot now : ℕ) (link : OpenLink) → IsInRange link.setup.link.fields → HasRanges link → IsTimed slot (facts_in link)
    → IsTimed slot (end_after link.setup (facts_in link) (PacketSent now))
sent_timed slot now link fields ranges is =
    let facts = facts_in link in
    stays_timed slot link (PacketSent now) refl (ap (λ (e : ConnectionEvent). e.slot) (sent_in now facts).event)
    (λ goes.
    let on = went slot link (PacketSent now) refl goes in
    let later = gone_later (takes_leave facts) now link fields ranges in
    let next = is.on_track.next on in omega (arith, next, later)) is

-- it receives in an exchange of its event
received_slot : (setup : EndSetup) (now : ℕ) (octets : List ℕ) (room : Bool) (facts : EndFacts)
    → (end_after setup facts (PacketReceived now octets room)).event.slot ≡ facts.event.slot
received_slot setup now octets room facts = by (is_forged setup facts octets) (good_pdu setup facts octets)
  where
    by : (forged : Bool) (may : Option (List ℕ)) → (facts_forged_if forged (facts_received setup.link.role now room may facts)).event.slot ≡ facts.event.slot
    by true None = refl
    by false None = refl
    by true (Some pdu) = ap (λ (e : ConnectionEvent). e.slot) (received_same setup.link.role now room pdu facts).event
    by false (Some pdu) = ap (λ (e : ConnectionEvent). e.slot) (received_same setup.link.role now room pdu facts).event

-- before its first event the anchor of that stays
first_stays : (t u : TrackFacts) (slot : ℕ) → IsInPlace t u → (t.entered == 0) ≡ true → slot ≤ next_anchor_of t → slot ≤ next_anchor_of u
first_stays t u slot place none next =
    let none_too : (u.entered == 0) ≡ true = ap (λ n. n == 0) place.entered ∙ none in
    let at : slot ≤ t.anchor = subst (λ b. slot ≤ (if b then t.anchor else t.anchor + spacing_of t.waits t.params t.entered)) none next in
    let same = place.anchor in
    subst (λ b. slot ≤ (if b then u.anchor else u.anchor + spacing_of u.waits u.params u.entered)) (sym none_too) (omega (arith, at, same))

some_entered : (n : ℕ) → (n == 0) ≡ false → 1 ≤ n
some_entered n is = let some = eqb-false n 0 is in omega (arith, some)

stays_later : (t u : TrackFacts) (now : ℕ) → IsInPlace t u → HasIntervals u → (1 ≤ t.entered → now ≤ t.anchor + 1) → now + 1 ≤ next_anchor_of t
    → now + 1 ≤ next_anchor_of u
stays_later t u now place spaced reach next = by (t.entered == 0) refl
  where
    by : (none : Bool) → (t.entered == 0) ≡ none → now + 1 ≤ next_anchor_of u
    by true is = first_stays t u (now + 1) place is next
    by false is = moves_on t u now place spaced (reach (some_entered t.entered is)) next

received_timed : (now : ℕ) (octets : List ℕ) (room : Bool) (link : OpenLink) → IsInRange link.setup.link.fields
    → HasRanges (link_after (PacketReceived now octets room) link) → now ≤ (facts_in link).event.slot + 1
    → IsTimed (now + 1) (facts_in link) → IsTimed (now + 1) (end_after link.setup (facts_in link) (PacketReceived now octets room))
received_timed now octets room link fields ranges reach is =
    let facts = facts_in link in
    let step = PacketReceived now octets room in
    let track = (end_after link.setup facts step).control.track in
    stays_timed (now + 1) link step refl (received_slot link.setup now octets room facts)
    (λ goes.
    let spaced = has_intervals link.setup (link.past ++ step ∷ []) fields ranges.asks in
    stays_later facts.control.track track now (place (now + 1) link step refl)
    (subst (λ (f : EndFacts). HasIntervals f.control.track) (step_facts link step) spaced)
    (λ some. subst (λ n. now ≤ n + 1) (is.event some) reach) (is.on_track.next (went (now + 1) link step refl goes))) is

-- a step of an open link
step_timed : (slot : ℕ) (link : OpenLink) (step : EndStep) → IsTimed slot (end_after link.setup (facts_in link) step) → IsTimed slot (facts_in (link_after step link))
step_timed slot link step is = subst (IsTimed slot) (sym (step_facts link step)) is

-- ---- it enters an event

anchor_entered : (t : TrackFacts) → (track_after_enter t).anchor ≡ next_anchor_of t
anchor_entered t = by t.waits
  where
    in_next : (change : Change) (due : Bool) → (if due then track_changed change t else track_unchanged t).anchor ≡ next_anchor_of t
    in_next change true = refl
    in_next change false = refl

    by : (waits : Option Change) → (track_in_next waits t).anchor ≡ next_anchor_of t
    by None = refl
    by (Some change) = in_next change (is_due change t.entered)

entry_timed : (slot : ℕ) (link : OpenLink) → IsInRange link.setup.link.fields → HasRanges link → goes_on (facts_in link) ≡ true → is_anchor slot link ≡ true
    → IsTimed (slot + 1) (facts_in (link_after (EventEntered slot) link))
entry_timed slot link fields ranges goes at =
    let facts = facts_in link in
    let t = facts.control.track in
    let entered : facts_in (link_after (EventEntered slot) link) ≡ facts_entered link.setup slot facts =
    step_facts link (EventEntered slot) ∙ ap (λ b. facts_entered_if b link.setup slot facts) goes in
    let track = owing_track _ (control_entered slot facts) (entered_view slot facts)
    ∙ enters_track facts.control slot (is_quiet_now facts) (none_of facts.control.ends goes) in
    let here : next_anchor_of t ≡ slot = eqb-true (next_anchor_of t) slot at in
    let later = next_after_enter t (has_intervals link.setup link.past fields ranges.asks) in
    let anchor = ap (λ (now : TrackFacts). now.anchor) track ∙ anchor_entered t ∙ here in
    subst (IsTimed (slot + 1)) (sym entered) (record {
      on_track = record {
        last = λ some. omega (arith, anchor);
        next = λ still. subst (λ (now : TrackFacts). slot + 1 ≤ next_anchor_of now) (sym track) (omega (arith, here, later));
      };
      event = λ some. sym anchor;
    })

-- or its next anchor is in a later slot
waits_timed : (slot : ℕ) (link : OpenLink) (goes at : Bool) → goes_on (facts_in link) ≡ goes → is_anchor slot link ≡ at → (goes && at) ≡ false
    → IsTimed slot (facts_in link) → IsTimed (slot + 1) (facts_in link)
waits_timed slot link goes at is_going is_at none is = record {
  on_track = record {
    last = λ some. let before = is.on_track.last some in omega (arith, before);
    next = λ still.
        let elsewhere = eqb-false (next_anchor_of (facts_in link).control.track) slot (sym (ap (λ b. b && is_anchor slot link) still) ∙ not_both) in
        let next = is.on_track.next still in omega (arith, next, elsewhere);
  };
  event = is.event;
}
  where
    not_both : (goes_on (facts_in link) && is_anchor slot link) ≡ false
    not_both = ap (λ b. b && is_anchor slot link) is_going ∙ ap (λ b. goes && b) is_at ∙ none

entered_timed : (slot : ℕ) (link : OpenLink) → IsInRange link.setup.link.fields → HasRanges link → IsTimed slot (facts_in link)
    → IsTimed (slot + 1) (facts_in (link_entered slot link))
entered_timed slot link fields ranges is = by (goes_on (facts_in link)) (is_anchor slot link) refl refl
  where
    by : (goes at : Bool) → goes_on (facts_in link) ≡ goes → is_anchor slot link ≡ at → IsTimed (slot + 1) (facts_in (entered_if (goes && at) slot link))
    by true true is_going is_at = entry_timed slot link fields ranges is_going is_at
    by true false is_going is_at = waits_timed slot link true false is_going is_at refl is
    by false at is_going is_at = waits_timed slot link false at is_going is_at refl is

-- a link as it is opened
new_timed : (setup : EndSetup) → IsTimed (setup.opened + 1) (facts_in (new_link setup))
unfolding end_facts
new_timed setup = record {
  on_track = record { last = λ some. absurd (let none : 1 ≤ 0 = some in omega (arith, none)); next = λ goes. omega arith };
  event = λ some. absurd (let none : 1 ≤ 0 = some in omega (arith, none));
}

-- ---- all open links of a controller, at any time

record AreTimed (setup : Setup) (stage : Stage) (begun : ℕ) (facts : Facts) : Type 0 where
  station : StationAt setup stage begun facts
  ranged : AreRanged setup stage begun facts
  each : (handle : ℕ) (link : OpenLink) → link_at handle facts.links ≡ Some link → IsTimed begun (facts_in link)

heard_timed : (slot : ℕ) (setup : Setup) (facts : Facts) (octet handle : ℕ) (now : OpenLink) → HasHeardHost setup facts octet handle now
    → ((link : OpenLink) → link_at handle facts.links ≡ Some link → IsTimed slot (facts_in link)) → IsTimed slot (facts_in now)
heard_timed slot setup facts octet handle now (Unchanged was) each = each now was
heard_timed slot setup facts octet handle now (GetsData link start body was is) each =
    subst (λ (l : OpenLink). IsTimed slot (facts_in l)) (sym is)
    (step_timed slot link (DataGiven start body)
    (track_stays slot link (DataGiven start body) refl refl refl (each link was)))
heard_timed slot setup facts octet handle now (IsAsked link command step was accepted asks is) each =
    let well = asked_is_well setup facts octet handle command link.setup.link.role (facts_in link).peer step accepted asks in
    subst (λ (l : OpenLink). IsTimed slot (facts_in l)) (sym is)
    (step_timed slot link step (asked_timed slot link step well.by_host (each link was)))

-- it may fix its PDU, and may send
module _ (slot now : ℕ) (link : OpenLink) (fields : IsInRange link.setup.link.fields) where
  sends_timed : (sends : Bool) → HasRanges (sent_if sends now link) → IsTimed slot (facts_in link) → IsTimed slot (facts_in (sent_if sends now link))
  sends_timed true ranges is = step_timed slot link (PacketSent now) (sent_timed slot now link fields (ranges_before (PacketSent now) link ranges) is)
  sends_timed false ranges is = is

fixes_timed : (slot : ℕ) (fixes : Bool) (link : OpenLink) → IsTimed slot (facts_in link) → IsTimed slot (facts_in (fixed_if fixes link))
fixes_timed slot true link is = step_timed slot link PduFixed (fixed_timed slot link is)
fixes_timed slot false link is = is

fixed_fields : (fixes : Bool) (link : OpenLink) → IsInRange link.setup.link.fields → IsInRange (fixed_if fixes link).setup.link.fields
fixed_fields true link is = is
fixed_fields false link is = is

-- ---- a turn begins

module _ (setup : Setup) (begun : ℕ) (on : Bool) (facts : Facts) (is : AreTimed setup Between begun facts) where
  abbrev next : Facts
  next = facts_after setup facts (TurnBegins begun on)

  begun_timed : AreRanged setup (Within 0) (begun + 1) next → (handle : ℕ) (link : OpenLink) → link_at handle next.links ≡ Some link → IsTimed (begun + 1) (facts_in link)
  begun_timed ranged handle link at =
      let has = begins_under setup facts begun on handle link at in
      let fields = (open_has IsSetUp 0 handle facts.links has.link is.station.each has.was).in_range in
      let ranges = open_has HasRanges 0 handle facts.links has.link is.ranged.each has.was in
      let now = open_has HasRanges 0 handle next.links link ranged.each at in
      let entered : IsTimed (begun + 1) (facts_in has.entered) =
      subst (IsTimed (begun + 1)) (λ i. end_facts (sym (has.setup_is ∙ sym (entered_setup begun has.link)) i) (sym has.past_is i))
      (entered_timed begun has.link fields ranges (is.each handle has.link has.was)) in
      let base = subst (λ (l : OpenLink). IsTimed (begun + 1) (facts_in l)) (sym has.base_is) (fixes_timed (begun + 1) has.fixes has.entered entered) in
      let base_fields = subst (λ (l : OpenLink). IsInRange l.setup.link.fields) (sym has.base_is)
      (fixed_fields has.fixes has.entered (subst (λ (s : EndSetup). IsInRange s.link.fields) (sym has.setup_is) fields)) in
      subst (λ (l : OpenLink). IsTimed (begun + 1) (facts_in l)) (sym has.is)
      (sends_timed (begun + 1) begun has.base base_fields (sends_under handle next.turn.doing) (subst HasRanges has.is now) base)

-- ---- a phase

in_reach : (slot handle : ℕ) (link : OpenLink) (radio : Radio) → IsInSlot radio slot handle link → slot ≤ (facts_in link).event.slot + 1
in_reach slot handle link radio (AtAnchor is holds) = omega (arith, is)
in_reach slot handle link radio (AfterAnchor is heard) = omega (arith, is)

refused_timed : (slot : ℕ) (answer : Option EndStep) (link : OpenLink) → IfSome answer IsRefusal → IsTimed slot (facts_in link)
    → IsTimed slot (facts_in (refused_if answer link))
refused_timed slot (Some step) link refusal is = step_timed slot link step (asked_timed slot link step (refusal_asks step refusal) is)
refused_timed slot None link refusal is = is

refused_fields : (answer : Option EndStep) (link : OpenLink) → IsInRange link.setup.link.fields → IsInRange (refused_if answer link).setup.link.fields
refused_fields (Some step) link is = is
refused_fields None link is = is

unsent_ranges : (sends : Bool) (slot : ℕ) (link : OpenLink) → HasRanges (sent_if sends slot link) → HasRanges link
unsent_ranges true slot link ranges = ranges_before (PacketSent slot) link ranges
unsent_ranges false slot link ranges = ranges

refused_ranges : (answer : Option EndStep) (link : OpenLink) → HasRanges (refused_if answer link) → HasRanges link
refused_ranges (Some step) link ranges = ranges_before step link ranges
refused_ranges None link ranges = ranges

-- it is given words
worded_timed : (setup : Setup) (facts : Facts) (doing : Doing) (slot : ℕ) (link : OpenLink) → IsTimed slot (facts_in link)
    → IsTimed slot (facts_in (link_worded setup facts doing link))
worded_timed setup facts doing slot link is =
    each_worded (λ base. IsTimed slot (facts_in base)) setup facts doing link is
    (λ skd_s iv_s.
    let step = WordsGiven skd_s iv_s in step_timed slot link step (track_stays slot link step refl refl refl is))

module _ (setup : Setup) (phases begun : ℕ) (received : Option (List ℕ)) (facts : Facts) (is : AreTimed setup (Within phases) begun facts) where
  abbrev later : Facts
  later = facts_after setup facts (step_of received)

  abbrev room : Bool
  room = has_room setup facts

  slot_is : facts.turn.slot + 1 ≡ begun
  slot_is = is.station.holds.phased.uses.in_turn.slot_is

  -- it receives, may refuse a request, and may send
  taken_timed : (handle : ℕ) (octets : List ℕ) (link : OpenLink) (answer : Option EndStep) (sends : Bool) → IfSome answer IsRefusal
      → link_at handle facts.links ≡ Some link → listens_under handle facts.turn.doing ≡ true → let base = link_worded setup facts facts.turn.doing link in
      HasRanges (sent_if sends facts.turn.slot (refused_if answer (link_after (PacketReceived facts.turn.slot octets room) base)))
      → IsTimed begun (facts_in (sent_if sends facts.turn.slot (refused_if answer (link_after (PacketReceived facts.turn.slot octets room) base))))
  taken_timed handle octets link answer sends refusal was on ranges =
      let slot = facts.turn.slot in
      let step = PacketReceived slot octets room in
      let base = link_worded setup facts facts.turn.doing link in
      let heard = link_after step base in
      let refused = refused_if answer heard in
      let fields = subst (λ (s : EndSetup). IsInRange s.link.fields) (sym (worded_setup setup facts facts.turn.doing link))
      (open_has IsSetUp 0 handle facts.links link is.station.each was).in_range in
      let before = unsent_ranges sends slot refused ranges in
      let reach = subst (λ n. slot ≤ n + 1) (sym (worded_slot setup facts facts.turn.doing link))
      (in_reach slot handle link facts.radio (is.station.holds.in_slot handle link was (Listening on))) in
      let own = worded_timed setup facts facts.turn.doing (slot + 1) link (subst (λ n. IsTimed n (facts_in link)) (sym slot_is) (is.each handle link was)) in
      let took = step_timed (slot + 1) base step (received_timed slot octets room base fields (refused_ranges answer heard before) reach own) in
      subst (λ n. IsTimed n (facts_in (sent_if sends slot refused))) slot_is
      (sends_timed (slot + 1) slot refused (refused_fields answer heard fields) sends ranges (refused_timed (slot + 1) answer heard refusal took))

  passed_timed : AreRanged setup (Within (suc phases)) begun later → (handle : ℕ) (link : OpenLink) → link_at handle later.links ≡ Some link
      → HasPassed setup facts room received handle later.turn.doing link → IsTimed begun (facts_in link)
  passed_timed ranged handle link at (IsNew end made opened off) =
      subst (λ (l : OpenLink). IsTimed begun (facts_in l)) (sym made)
      (subst (λ n. IsTimed n (facts_in (new_link end))) (ap (λ n. n + 1) opened ∙ slot_is) (new_timed end))
  passed_timed ranged handle link at (Stays was none nothing listened) = is.each handle link was
  passed_timed ranged handle link at (Takes one octets was some on same) =
      let now = open_has HasRanges 0 handle later.links link ranged.each at in
      subst (λ (l : OpenLink). IsTimed begun (facts_in l)) (sym same)
      (taken_timed handle octets one (refusal_at handle room octets facts (link_worded setup facts facts.turn.doing one)) (sends_under handle later.turn.doing)
      (refusal_is handle room octets facts (link_worded setup facts facts.turn.doing one)) was on (subst HasRanges same now))

-- ---- at any time

reported_timed : (slot : ℕ) (reports : Bool) (link : OpenLink) → IsTimed slot (facts_in link)
    → IsTimed slot (facts_in (if reports then link_after DataReported link else link))
reported_timed slot true link is = step_timed slot link DataReported (track_stays slot link DataReported refl refl refl is)
reported_timed slot false link is = is

timed_kept : AreTaken → (setup : Setup) → IsTurned setup (AreTimed setup)
timed_kept taken setup = let stations = station_kept taken setup in let ranges = ranged_kept setup in record {
  feeds = λ begun octet facts is. record {
    station = stations.feeds begun octet facts is.station;
    ranged = ranges.feeds begun octet facts is.ranged;
    each = λ handle link at. heard_timed begun setup facts octet handle link (host_under setup facts octet handle link at) (is.each handle);
  };
  begins = λ begun on facts is. let ranged = ranges.begins begun on facts is.ranged in record {
    station = stations.begins begun on facts is.station;
    ranged = ranged;
    each = begun_timed setup begun on facts is ranged;
  };
  passes = λ phases begun received facts is. let ranged = ranges.passes phases begun received facts is.ranged in record {
    station = stations.passes phases begun received facts is.station;
    ranged = ranged;
    each = λ handle link at. passed_timed setup phases begun received facts is ranged handle link at (phase_under setup facts received handle link at);
  };
  ends = λ begun facts is. record {
    station = stations.ends begun facts is.station;
    ranged = ranges.ends begun facts is.ranged;
    each = λ handle link at.
        let was = ended_under setup facts handle link at in
        subst (λ (l : OpenLink). IsTimed begun (facts_in l)) (sym was.is)
        (reported_timed begun (nat_lt 0 (complete_in was.link)) was.link (is.each handle was.link was.was));
  };
}

timed_first : (setup : Setup) → AreTimed setup Between 0 (first_facts setup)
timed_first setup = record {
  station = station_first setup;
  ranged = ranged_first setup;
  each = λ handle link at. no_link setup handle link _ at;
}

-- ---- in a run

pub ends_on_track : AreTaken → (given : Given) (before rest : List Event) (station handle : ℕ) (link : OpenLink) → AreDistinct given.stations
    → is_in station given.stations ≡ true → history_of (run_of given) ≡ before ++ rest
    → link_at handle (facts_at given station before).links ≡ Some link → IsOnTrack (facts_at given station before).turn.begun (facts_in link)
ends_on_track taken given before rest station handle link distinct is at is_open =
    let setup = setup_at given station in
    let past = past_of station before in
    let stands = stands_in_run given before rest station distinct is at in
    let are = turned setup (AreTimed setup) (timed_kept taken setup) past stands.at (timed_first setup) stands.is in
    subst (λ n. IsOnTrack n (facts_in link)) (sym are.ranged.in_turn.begun_is) (are.each handle link is_open).on_track
