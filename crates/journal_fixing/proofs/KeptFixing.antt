-- Each step of a run of two stations keeps that an open end as it fixed its next PDU in the turn is, by the journal, what it
-- was then.
use Rattle.std.proofs.Common.{◌≡◌, ℕ, suc, ◌+◌, ◌-◌, ◌==◌, ◌<◌, Bool, true, false, Option, Some, None, List, [], ◌∷◌, ◌++◌, length, map, refl, sym, ap, subst, ◌∙◌, append-nil, append_assoc, arith}
use Rattle.std.specs.Prelude.{take, if◌then◌else◌}
use Rattle.std.proofs.lemmas.Bool.{eqb-true}
use Rattle.std.proofs.lemmas.List.{map-append}
use Rattle.ble_base.specs.declared.roles.Side.{Side}
use Rattle.journal_controls.specs.controller_model.Facts.{Facts}
use Rattle.journal_controls.specs.controller_model.Heard.{has_room}
use Rattle.journal_controls.specs.controller_model.Side.{facts_after, notes_after}
use Rattle.journal_controls.specs.controller_model.Since.{notes_opened_on}
use Rattle.journal_controls.specs.controller_model.Step.{Step as Call, HostOctet, NothingHeard, PacketHeard, TurnBegins, TurnEnds}
use Rattle.journal_controls.specs.controller_model.declared.doing.Doing.TheVariants.{Rests}
use Rattle.journal_controls.specs.LineSteps.{keyed_on, turn_now}
use Rattle.journal_controls.specs.TurnSteps.{steps_begun}
use Rattle.journal_controls.specs.journal_acks.link_calls.Phases.{HasPassed, IsNew, Stays, Takes}
use Rattle.journal_controls.specs.journal_acks.link_calls.Uses.{sends_under, uses_under}
use Rattle.journal_controls.specs.journal_ends.Asked.{Words}
use Rattle.journal_controls.specs.journal_ends.GivenWords.{GivesWords}
use Rattle.journal_controls.specs.journal_links.LinkLines.{line_of, lines_of}
use Rattle.journal_controls.specs.link_model.End.{notes_from}
use Rattle.journal_controls.specs.link_model.Step.{Step}
use Rattle.journal_controls.specs.link_model.Facts.{Facts as EndFacts, keyed_of}
use Rattle.journal_controls.specs.link_model.keyed_control.Keyed.{Keyed}
use Rattle.journal_controls.specs.journal_ends.open_links.OpenLinks.{OpenLink, facts_in, link_at}
use Rattle.journal_controls.specs.journal_ends.open_links.Turns.{enters_in}
use Rattle.journal_controls.specs.run_model.Due.{Each}
use Rattle.journal_controls.specs.run_model.Feeding.{is_octet}
use Rattle.journal_controls.specs.run_model.History.{Event, Called, HostFed, Noted, Transmitted, TurnBegan, packet_received, steps_in, turns_begun}
use Rattle.journal_controls.specs.run_model.Journal.{journal_of, side_of}
use Rattle.journal_controls.specs.run_model.LinkEnds.{HaveAddresses}
use Rattle.journal_controls.specs.run_model.Readers.{turns_of}
use Rattle.journal_controls.specs.run_model.Run.{Given, after_call, after_feed, after_octets, facts_at, hearings_of, history_of, octets_left, run_of, setup_at, step_of}
use Rattle.journal_controls.proofs.FixedEnds.{begun_past}
use Rattle.journal_controls.proofs.PassedControls.{no_octet}
use Rattle.journal_controls.proofs.journal_ends.EndsKnown.{AreLined, lined_at}
use Rattle.journal_controls.proofs.journal_ends.KeptSeen.{AreSeenAt, seen_first, seen_kept}
use Rattle.journal_controls.proofs.journal_ends.PastSeen.{notes_more}
use Rattle.journal_controls.proofs.journal_ends.SeenCalls.{held_at}
use Rattle.journal_controls.proofs.journal_acks.Counting.{facts_event}
use Rattle.journal_controls.proofs.journal_acks.Exchanging.{number_at, number_called, number_other, number_sent}
use Rattle.journal_controls.proofs.journal_acks.PassedLinks.{passed_or_new}
use Rattle.journal_controls.proofs.journal_acks.Standing.{PhasedBy, phased_at}
use Rattle.journal_controls.proofs.journal_acks.TwoStations.{IsOfTwo, hearing_of, one_hearing, other_apart}
use Rattle.journal_controls.proofs.journal_acks.link_calls.CallNotes.{OpensNone, begin_noted, opening_none}
use Rattle.journal_controls.proofs.journal_acks.link_calls.LinkCalls.{turn_begun_under}
use Rattle.journal_controls.proofs.journal_links.OfTwo.{are_distinct}
use Rattle.journal_controls.proofs.journal_packets.AccessOrder.{AreNth}
use Rattle.journal_controls.proofs.journal_ends.run_laws.ByCalls.{last_turn}
use Rattle.journal_controls.proofs.journal_ends.run_laws.DistinctAccess.{AreApart}
use Rattle.journal_controls.proofs.journal_ends.run_laws.Hearings.{other_facts, own_facts}
use Rattle.journal_controls.proofs.journal_ends.run_laws.InAgreement.{IsStation, OpenedBefore, differs_back}
use Rattle.journal_controls.proofs.journal_ends.run_laws.LinkPhases.{begins_in}
use Rattle.journal_controls.proofs.journal_ends.run_laws.OpenSteps.{open_has}
use Rattle.journal_controls.proofs.journal_ends.run_laws.TurnPlaces.{Between, Within, at_stage, stands_at}
use Rattle.journal_controls.proofs.run_model.Calls.{same_station, turns_called}
use Rattle.journal_controls.proofs.run_model.Fates.{turns_are}
use Rattle.journal_controls.proofs.run_model.Fronts.{front_at}
use Rattle.journal_controls.proofs.run_model.LinkEnds.{AreTaken, IsUnderstood, received_by}
use Rattle.journal_controls.proofs.run_model.Places.{each_called, each_event}
use Rattle.journal_controls.proofs.run_model.Stations.{among, in_more_other, in_more_same, is_in, not_before}
use Rattle.journal_controls.proofs.run_model.Walk.{AtBegins, AtEnds, AtFeeds, AtListening, IsKept, NoTurn, Place}
use Rattle.journal_fixing.specs.OnLines.{control_fixing, is_fixed}
use Rattle.journal_fixing.specs.PastFixing.{facts_fixing}
use Rattle.journal_fixing.proofs.FixedPasts.{facts_begun}
use Rattle.journal_fixing.proofs.FixingEvents.{call_fixed, call_fixing, call_still, packet_fixed, packet_fixing, turn_unfixed}
use Rattle.journal_fixing.proofs.FixingLinks.{late_rests, listens_then, listens_uses, receiving_fixed, sends_uses, user_fixes, uses_on}
use Rattle.journal_fixing.proofs.TurnFixing.{begun_fixes}
use Rattle.journal_fixing.proofs.UnfixedEnds.{apart_same, feed_same}

-- ---- what is kept

abbrev pub fixing_at : Words → ℕ → Side → List Event → Option Keyed
fixing_at words number side history = control_fixing words side number (journal_of history)

abbrev pub IsFixing : Words → List Event → ℕ → ℕ → OpenLink → Type 0
IsFixing words history station handle link =
    fixing_at words (number_at station handle history) (side_of station) history ≡ Some (keyed_of (facts_fixing link.setup link.past))

-- of each end of a station that sends or listens
abbrev pub AreFixingOf : Words → Given → List Event → ℕ → Type 0
AreFixingOf words given history station = (handle : ℕ) (link : OpenLink) → link_at handle (facts_at given station history).links ≡ Some link
    → uses_under handle (facts_at given station history).turn.doing ≡ true → IsFixing words history station handle link

abbrev pub AreFixing : Words → Given → List Event → Type 0
AreFixing words given history = (station : ℕ) → is_in station given.stations ≡ true → AreFixingOf words given history station

-- no end of a station has its next PDU fixed, or each end of any has
abbrev pub IsUnfixed : Words → List Event → ℕ → Type 0
IsUnfixed words history station = (number : ℕ) → is_fixed words (side_of station) number (journal_of history) ≡ false

abbrev AreAllFixed : Words → List Event → Type 0
AreAllFixed words history = (side : Side) (number : ℕ) → is_fixed words side number (journal_of history) ≡ true

-- before a station has begun the turn
abbrev AreUnfixed : Words → Given → Place → List Event → Type 0
AreUnfixed words given (AtFeeds done left) history = (station : ℕ) → IsUnfixed words history station
AreUnfixed words given (AtBegins done left) history = (station : ℕ) → is_in station given.stations ≡ true → is_in station done ≡ false → IsUnfixed words history station
AreUnfixed words given place history = Unit {0}

-- before a station begins a turn, as the call leaves its ends
pub record IsBegun (words : Words) (given : Given) (before : List Event) (station slot : ℕ) (on : Bool) : Type 0 where
  pub unfixed : IsUnfixed words before station
  pub lined : AreLined given before
  pub lined_after : AreLined given (after_call given station (TurnBegins slot on) before)
  pub fixing : AreFixingOf words given (after_call given station (TurnBegins slot on) before) station

-- before a packet, and before a station is called in a phase
abbrev pub AtCall : Words → Given → List Event → ℕ → Call → Type 0
AtCall words given before station (TurnBegins slot on) = IsBegun words given before station slot on
AtCall words given before station (PacketHeard octets) = AreFixing words given before
AtCall words given before station NothingHeard = AreFixing words given before
AtCall words given before station call = Unit {0}

abbrev pub FixingBefore : Words → Given → List Event → Event → Type 0
FixingBefore words given before (TurnBegan slot radios) = Unit {0}
FixingBefore words given before (HostFed station octets) = Unit {0}
FixingBefore words given before (Called station call) = AtCall words given before station call
FixingBefore words given before (Noted station note) = Unit {0}
FixingBefore words given before (Transmitted station channel octets hearings) = AreFixing words given before

pub record AreFixingAt (words : Words) (given : Given) (place : Place) (history : List Event) : Type 0 where
  pub seen : AreSeenAt words given place history
  unfixed : AreUnfixed words given place history
  aired : (station : ℕ) (octets : List ℕ) → is_in station given.stations ≡ true → packet_received station history ≡ Some octets → AreAllFixed words history
  pub fixing : AreFixing words given history
  pub each : Each (FixingBefore words given) [] history

-- ---- a station that uses no link

unused : (words : Words) (given : Given) (history : List Event) (station : ℕ) → ((handle : ℕ) → uses_under handle (facts_at given station history).turn.doing ≡ false) → AreFixingOf words given history station
unused words given history station none = λ handle link at uses. absurd (let h : true ≡ false = sym uses ∙ none handle in absurd cc)

rests : (words : Words) (given : Given) (history : List Event) (station : ℕ) → (facts_at given station history).turn.doing ≡ Rests → AreFixingOf words given history station
rests words given history station is = unused words given history station (λ handle. ap (uses_under handle) is)

-- ---- events and calls that leave an end as it is

module _ (words : Words) (given : Given) where
  -- an event that is no call
  fixing_event : (history : List Event) (event : Event) → ((station : ℕ) → steps_in station event ≡ [])
      → ((number : ℕ) (side : Side) → fixing_at words number side (history ++ event ∷ []) ≡ fixing_at words number side history)
      → ((station handle : ℕ) → number_at station handle (history ++ event ∷ []) ≡ number_at station handle history)
      → AreFixing words given history → AreFixing words given (history ++ event ∷ [])
  fixing_event history event none same number are = λ station in_it handle link at uses.
      let after = history ++ event ∷ [] in
      let facts = facts_event given station history event (none station) in
      let is = are station in_it handle link (ap (λ (f : Facts). link_at handle f.links) (sym facts) ∙ at)
      (ap (λ (f : Facts). uses_under handle f.turn.doing) (sym facts) ∙ uses) in
      ap (λ n. fixing_at words n (side_of station) after) (number station handle) ∙ same (number_at station handle history) (side_of station) ∙ is

  -- a call of a turn
  module _ (station : ℕ) (call : Call) (in_turn : is_octet call ≡ false) (history : List Event) (lined : AreLined given history)
      (lined_after : AreLined given (after_call given station call history)) where
    abbrev after : List Event
    after = after_call given station call history

    -- a station that is not called
    fixing_other : (other : ℕ) → is_in other given.stations ≡ true → (other == station) ≡ false → AreFixingOf words given history other → AreFixingOf words given after other
    fixing_other other in_it differs are = λ handle link at uses.
        let side = side_of other in
        let number = number_at other handle history in
        let facts = other_facts given station call history other differs in
        let numbers = number_other given station call history other handle differs in
        let was = ap (λ (f : Facts). link_at handle f.links) (sym facts) ∙ at in
        let now = subst (λ n. lines_of side n (journal_of after) ≡ map (line_of side n) (notes_opened_on link.setup link.past)) numbers (lined_after other handle link in_it at) in
        let is = are handle link was (ap (λ (f : Facts). uses_under handle f.turn.doing) (sym facts) ∙ uses) in
        ap (λ n. fixing_at words n side after) numbers ∙ call_still words side number history given station call in_turn (now ∙ sym (lined other handle link in_it was)) ∙ is

    fixing_call : AreFixingOf words given after station → ((other : ℕ) → is_in other given.stations ≡ true → (other == station) ≡ false → AreFixingOf words given history other)
        → AreFixing words given after
    fixing_call own others = λ other in_it. by other in_it (other == station) refl
      where
        by : (other : ℕ) → is_in other given.stations ≡ true → (same : Bool) → (other == station) ≡ same → AreFixingOf words given after other
        by other in_it true one = subst (AreFixingOf words given after) (sym (eqb-true other station one)) own
        by other in_it false differs = fixing_other other in_it differs (others other in_it differs)

    -- its own station
    module _ (in_it : is_in station given.stations ≡ true) (handle : ℕ) (link : OpenLink) (at : link_at handle (facts_at given station after).links ≡ Some link)
        (number : number_at station handle after ≡ number_at station handle history) (base : OpenLink) (was : link_at handle (facts_at given station history).links ≡ Some base) where
      abbrev side : Side
      side = side_of station

      abbrev own : ℕ
      own = number_at station handle history

      -- the lines that the call adds for an end
      pub own_lines : (steps : List Step) → link.setup ≡ base.setup → link.past ≡ base.past ++ steps
          → lines_of side own (journal_of after) ≡ lines_of side own (journal_of history) ++ map (line_of side own) (notes_from base.setup (facts_in base) steps)
      own_lines steps setup past =
          let notes = notes_from base.setup (facts_in base) steps in
          let now = subst (λ n. lines_of side n (journal_of after) ≡ map (line_of side n) (notes_opened_on link.setup link.past)) number (lined_after station handle link in_it at) in
          now ∙ (λ i. map (line_of side own) (notes_opened_on (setup i) (past i)))
          ∙ ap (map (line_of side own)) (notes_more base.setup base.past steps)
          ∙ map-append (line_of side own) (notes_opened_on base.setup base.past) notes
          ∙ ap (λ xs. xs ++ map (line_of side own) notes) (sym (lined station handle base in_it was))

      -- nothing happened to it
      own_still : link ≡ base → IsFixing words history station handle base → IsFixing words after station handle link
      own_still same is =
          ap (λ n. fixing_at words n side after) number
          ∙ call_still words side own history given station call in_turn
          (own_lines [] (ap (λ (l : OpenLink). l.setup) same) (ap (λ (l : OpenLink). l.past) same ∙ sym (append-nil base.past)) ∙ append-nil (lines_of side own (journal_of history)))
          ∙ is ∙ ap (λ (l : OpenLink). Some (keyed_of (facts_fixing l.setup l.past))) (sym same)

-- ---- a turn begins at a station

module _ (words : Words) (given : Given) (station slot : ℕ) (on : Bool) (history : List Event) (lined : AreLined given history)
    (lined_after : AreLined given (after_call given station (TurnBegins slot on) history)) (in_it : is_in station given.stations ≡ true)
    (controls : (handle : ℕ) (link : OpenLink) → link_at handle (facts_at given station history).links ≡ Some link
    → keyed_on words (side_of station) (number_at station handle history) (journal_of history) ≡ Some (keyed_of (facts_in link)))
    (turn : turn_now (journal_of history) ≡ slot) (unfixed : IsUnfixed words history station) where
  abbrev call : Call
  call = TurnBegins slot on

  begins_fixing : AreFixingOf words given (after_call given station call history) station
  begins_fixing = λ handle link at uses.
      let setup = setup_at given station in
      let facts = facts_at given station history in
      let after = after_call given station call history in
      let side = side_of station in
      let own = number_at station handle history in
      let held = held_at words given station call history in_it lined lined_after handle link at in
      let next = facts_after setup facts call in
      let doing = next.turn.doing in
      let used = ap (λ (f : Facts). uses_under handle f.turn.doing) (sym (own_facts given station call history)) ∙ uses in
      let has = turn_begun_under setup facts slot on handle link held in
      let base = has.link in
      let enters = enters_in slot base in
      let sends = sends_under handle doing in
      let fixes = user_fixes handle next.links doing (begins_in setup slot on facts) used in
      let past = has.past_is ∙ begun_past slot handle doing base ∙ ap (λ b. base.past ++ steps_begun enters b sends slot) fixes in
      let number = number_called given station call history handle (begin_noted (OpensNone handle) (opening_none handle) setup slot on facts) in
      let steps = steps_begun enters true sends slot in
      ap (λ n. fixing_at words n side after) number
      ∙ begun_fixes words side own slot given station call history base.setup (facts_in base) enters true sends refl
      (own_lines words given station call refl history lined lined_after in_it handle link at number base has.was steps has.setup_is past) turn (unfixed own) (controls handle base has.was)
      ∙ ap (λ (f : EndFacts). Some (keyed_of f)) (sym (facts_begun base.setup base.past enters sends slot))
      ∙ (λ i. Some (keyed_of (facts_fixing (sym has.setup_is i) (sym past i))))

-- ---- a phase passes at a station

module _ (words : Words) (given : Given) (station phases : ℕ) (history : List Event) (lined : AreLined given history)
    (lined_after : AreLined given (after_call given station (step_of (packet_received station history)) history)) (in_it : is_in station given.stations ≡ true)
    (phased : PhasedBy given history station (at_stage (Within phases) (turns_begun history)))
    (new_station : IsStation (setup_at given station) (facts_at given station (after_call given station (step_of (packet_received station history)) history)))
    (same_slot : (facts_at given station (after_call given station (step_of (packet_received station history)) history)).turn.slot ≡ (facts_at given station history).turn.slot)
    (aired : (octets : List ℕ) → packet_received station history ≡ Some octets → AreAllFixed words history) (are : AreFixingOf words given history station) where
  abbrev received : Option (List ℕ)
  received = packet_received station history

  abbrev passed : List Event
  passed = after_call given station (step_of received) history

  abbrev held : Facts
  held = facts_at given station history

  abbrev later : Facts
  later = facts_after (setup_at given station) held (step_of received)

  passed_fixing : (handle : ℕ) (link : OpenLink) → link_at handle (facts_at given station passed).links ≡ Some link → number_at station handle passed ≡ number_at station handle history
      → uses_under handle later.turn.doing ≡ true → HasPassed (setup_at given station) held (has_room (setup_at given station) held) received handle later.turn.doing link → IsFixing words passed station handle link
  passed_fixing handle link at number uses (IsNew end made opened off) = absurd (let h : true ≡ false = sym (uses_on handle later.turn.doing uses) ∙ off in absurd cc)
  passed_fixing handle link at number uses (Stays was none nothing listened) =
      let sent = listened (listens_then handle later.turn.doing none uses) in
      own_still words given station (step_of received) (no_octet received) history lined lined_after in_it handle link at number link was refl
      (are handle link was (sends_uses handle held.turn.doing sent))
  passed_fixing handle link at number uses (Takes base octets was some on same) =
      let side = side_of station in
      let own = number_at station handle history in
      let room = has_room (setup_at given station) held in
      let sends = sends_under handle later.turn.doing in
      ap (λ n. fixing_at words n side passed) number
      ∙ call_fixing words side own history given station (step_of received) (aired octets some side own)
      ∙ are handle base was (listens_uses handle held.turn.doing on)
      ∙ ap (λ (f : EndFacts). Some (keyed_of f)) (sym (receiving_fixed sends (setup_at given station) handle room octets held base))
      ∙ ap (λ (l : OpenLink). Some (keyed_of (facts_fixing l.setup l.past))) (sym same)

  -- a link that is new is not used
  new_unused : (handle : ℕ) (link : OpenLink) → link_at handle (facts_at given station passed).links ≡ Some link → link.setup.opened ≡ held.turn.slot
      → uses_under handle (facts_at given station passed).turn.doing ≡ true → ⊥
  new_unused handle link at now uses =
      let after = facts_at given station passed in
      let before : link.setup.opened < after.turn.slot = open_has (OpenedBefore after.turn.slot) 0 handle after.links link (new_station.old (uses_on handle after.turn.doing uses)) at in
      let same = same_slot in
      absurd (omega (arith, before, now, same))

  passes_fixing : AreFixingOf words given passed station
  passes_fixing = λ handle link at uses.
      let used = ap (λ (f : Facts). uses_under handle f.turn.doing) (sym (own_facts given station (step_of received) history)) ∙ uses in
      passed_or_new given station history phased.uses.in_turn.listens (IsFixing words passed station handle link) handle link at
      (λ number passing. passed_fixing handle link at number used passing) (λ new. absurd (new_unused handle link at new.opened uses))

-- ---- each step

-- before a controller begins a turn, each of its open ends is by the journal what it holds
abbrev pub AreKnownAtBegins : Words → Given → Type 0
AreKnownAtBegins words given = (before rest : List Event) (station slot : ℕ) (on : Bool) (handle : ℕ) (link : OpenLink)
    → history_of (run_of given) ≡ before ++ Called station (TurnBegins slot on) ∷ rest → is_in station given.stations ≡ true
    → link_at handle (facts_at given station before).links ≡ Some link
    → keyed_on words (side_of station) (number_at station handle before) (journal_of before) ≡ Some (keyed_of (facts_in link))

-- a call, and all that is noted in it
call_each : (words : Words) (given : Given) (station : ℕ) (call : Call) (history : List Event) → Each (FixingBefore words given) [] history → AtCall words given history station call
    → Each (FixingBefore words given) [] (after_call given station call history)
call_each words given station call history each is =
    each_called (FixingBefore words given) station call (notes_after (setup_at given station) (facts_at given station history) call) history each is (λ before note. tt)

at_phase : (words : Words) (given : Given) (history : List Event) (station : ℕ) (received : Option (List ℕ)) → AreFixing words given history → AtCall words given history station (step_of received)
at_phase words given history station None are = are
at_phase words given history station (Some octets) are = are

pub at_phase_back : (words : Words) (given : Given) (history : List Event) (station : ℕ) (received : Option (List ℕ)) → AtCall words given history station (step_of received) → AreFixing words given history
at_phase_back words given history station None are = are
at_phase_back words given history station (Some octets) are = are

call_aired : (words : Words) (given : Given) (station : ℕ) (call : Call) (history : List Event) → AreAllFixed words history → AreAllFixed words (after_call given station call history)
call_aired words given station call history are = λ side number. call_fixed words side number history given station call (are side number)

-- what a station received was on the air before another one is called
received_aired : (words : Words) (given : Given) (station : ℕ) (call : Call) (history : List Event)
    → ((one : ℕ) (octets : List ℕ) → is_in one given.stations ≡ true → packet_received one history ≡ Some octets → AreAllFixed words history)
    → (one : ℕ) (octets : List ℕ) → is_in one given.stations ≡ true → packet_received one (after_call given station call history) ≡ Some octets
    → AreAllFixed words (after_call given station call history)
received_aired words given station call history are one octets in_it is = by (one == station) refl
  where
    by : (same : Bool) → (one == station) ≡ same → AreAllFixed words (after_call given station call history)
    by true same = absurd (let h : None ≡ Some octets = sym (received_by given one station call history true same) ∙ is in absurd cc)
    by false differs = call_aired words given station call history (are one octets in_it (sym (received_by given one station call history false differs) ∙ is))

none_received : (words : Words) (history : List Event) (station : ℕ) (octets : List ℕ) → packet_received station history ≡ None → packet_received station history ≡ Some octets → AreAllFixed words history
none_received words history station octets none is = absurd (let h : None ≡ Some octets = sym none ∙ is in absurd cc)

octets_each : (words : Words) (given : Given) (station : ℕ) (octets : List ℕ) (history : List Event) → Each (FixingBefore words given) [] history → Each (FixingBefore words given) [] (after_octets given station octets history)
octets_each words given station [] history each = each
octets_each words given station (octet ∷ octets) history each =
    octets_each words given station octets (after_call given station (HostOctet octet) history) (call_each words given station (HostOctet octet) history each tt)

feed_each : (words : Words) (given : Given) (station : ℕ) (octets : List ℕ) (history : List Event) → Each (FixingBefore words given) [] history → Each (FixingBefore words given) [] (after_feed given station octets history)
feed_each words given station [] history each = each
feed_each words given station (octet ∷ octets) history each =
    octets_each words given station (octet ∷ octets) (history ++ HostFed station (octet ∷ octets) ∷ [])
    (each_event (FixingBefore words given) history (HostFed station (octet ∷ octets)) each tt)

turn_is : (history : List Event) (slot : ℕ) → turns_begun history ≡ slot + 1 → turn_now (journal_of history) ≡ slot
turn_is history slot is = last_turn (length (turns_of (journal_of history))) slot (turns_are history ∙ is)

module _ (words : Words) (understood : IsUnderstood) (taken : AreTaken) (nth : AreNth) (apart : AreApart) (given : Given) (are_two : IsOfTwo given) (six : HaveAddresses given) (gives : GivesWords given words)
    (controls : AreKnownAtBegins words given) where
  -- where a station stands, by the place of the run
  phase_by : (place : Place) (history : List Event) → AreSeenAt words given place history → (station : ℕ) → is_in station given.stations ≡ true
      → PhasedBy given history station (stands_at place station (turns_begun history))
  phase_by place history seen station in_it = phased_at given place history seen.holds.hearing.stand station in_it

  between : (place : Place) (history : List Event) (begun : ℕ) → AreSeenAt words given place history
      → ((station : ℕ) → stands_at place station (turns_begun history) ≡ at_stage Between begun) → AreFixing words given history
  between place history begun seen stands = λ station in_it.
      rests words given history station (subst (PhasedBy given history station) (stands station) (phase_by place history seen station in_it)).phase

  -- the turn ends at each station, or no exchange is left in it
  ending : (done left : List ℕ) (history : List Event) → AreSeenAt words given (AtEnds done left) history → AreFixing words given history
  ending done left history seen = λ station in_it. by station (is_in station done) (phase_by (AtEnds done left) history seen station in_it)
    where
      by : (station : ℕ) (ended : Bool) → PhasedBy given history station (if ended then at_stage Between (turns_begun history) else at_stage (Within 3) (turns_begun history))
          → AreFixingOf words given history station
      by station true phased = rests words given history station phased.phase
      by station false phased = unused words given history station (λ handle. late_rests 1 handle (facts_at given station history).links (facts_at given station history).turn.doing phased.phase)

  -- a phase passes in one slot
  one_slot : (phases : ℕ) (done left : List ℕ) (station : ℕ) (history after : List Event) → is_in station given.stations ≡ true
      → PhasedBy given history station (at_stage (Within phases) (turns_begun history)) → turns_begun after ≡ turns_begun history
      → AreSeenAt words given (AtListening phases (done ++ station ∷ []) left) after
      → (facts_at given station after).turn.slot ≡ (facts_at given station history).turn.slot
  one_slot phases done left station history after in_it phased turns seen =
      let later = subst (λ b. PhasedBy given after station (if b then at_stage (Within (suc phases)) (turns_begun after) else at_stage (Within phases) (turns_begun after)))
      (in_more_same station station done (same_station station)) (phase_by (AtListening phases (done ++ station ∷ []) left) after seen station in_it) in
      let one = phased.uses.in_turn.slot_is in
      let two = later.uses.in_turn.slot_is in
      omega (arith, one, two, turns)

  pub fixing_kept : IsKept given (AreFixingAt words given)
  fixing_kept =
      let keeps = seen_kept words understood taken nth apart given are_two six gives in
      let distinct = are_distinct given are_two in record {
        on_turn = λ slot plan history begun at has.
            let event = TurnBegan slot (map plan.radio_of given.stations) in
            let after = history ++ event ∷ [] in
            let seen = keeps.on_turn slot plan history begun at has.seen in record {
              seen = seen;
              unfixed = λ station number. turn_unfixed words (side_of station) number history slot (map plan.radio_of given.stations);
              aired = λ station octets in_it. none_received words after station octets (seen.holds.hearing.hears station in_it);
              fixing = between (AtFeeds [] given.stations) after (turns_begun after - 1) seen (λ station. refl);
              each = each_event (FixingBefore words given) history event has.each tt;
            };
        on_feed = λ plan done left station history are some now has.
            let octets = take (plan.feed_of station) (octets_left given station history) in
            let after = after_feed given station octets history in
            let seen = keeps.on_feed plan done left station history are some now has.seen in record {
              seen = seen;
              unfixed = λ one number. feed_same words (side_of one) number given station octets history ∙ has.unfixed one number;
              aired = λ one heard in_one. none_received words after one heard (seen.holds.hearing.hears one in_one);
              fixing = between (AtFeeds (done ++ station ∷ []) left) after (turns_begun after - 1) seen (λ one. refl);
              each = feed_each words given station octets history has.each;
            };
        on_fed = λ history has. record {
          seen = keeps.on_fed history has.seen;
          unfixed = λ station in_it out. has.unfixed station;
          aired = has.aired;
          fixing = has.fixing;
          each = has.each;
        };
        on_begin = λ slot plan done left station history are due has.
            let on = plan.radio_of station in
            let call = TurnBegins slot on in
            let in_it = among given.stations done left station are in
            let after = after_call given station call history in
            let seen = keeps.on_begin slot plan done left station history are due has.seen in
            let lined = lined_at understood taken given are_two six (AtBegins done (station ∷ left)) history has.seen.known in
            let lined_after = lined_at understood taken given are_two six (AtBegins (done ++ station ∷ []) left) after seen.known in
            let front = front_at given (AtBegins (done ++ station ∷ []) left) after seen.known.front in
            let notes = map (Noted station) (notes_after (setup_at given station) (facts_at given station history) call) in
            let at = front.at ∙ append_assoc history (Called station call ∷ notes) front.rest in
            let unfixed = has.unfixed station in_it (not_before given.stations done left station distinct are) in
            let own =
            begins_fixing words given station slot on history lined lined_after in_it (λ handle link open_is. controls history (notes ++ front.rest) station slot on handle link at in_it open_is)
            (turn_is history slot due.slot_is) unfixed in record {
              seen = seen;
              unfixed = λ other in_other out number.
                  let not = not_yet other done station out (other == station) refl in
                  apart_same words (side_of other) number given station call history (other_apart given are_two other station in_other in_it (differs_back other station not.0))
                  ∙ has.unfixed other in_other not.1 number;
              aired = λ one octets in_one. none_received words after one octets (seen.holds.hearing.hears one in_one);
              fixing = fixing_call words given station call refl history lined lined_after own (λ other in_other differs. has.fixing other in_other);
              each = call_each words given station call history has.each (record { unfixed = unfixed; lined = lined; lined_after = lined_after; fixing = own });
            };
        on_begun = λ history has.
            record { seen = keeps.on_begun history has.seen; unfixed = tt; aired = has.aired; fixing = has.fixing; each = has.each };
        on_phase = λ phases history few has.
            record { seen = keeps.on_phase phases history few has.seen; unfixed = tt; aired = has.aired; fixing = has.fixing; each = has.each };
        on_silence = λ phases done left station history are none has.
            record { seen = keeps.on_silence phases done left station history are none has.seen; unfixed = tt; aired = has.aired; fixing = has.fixing; each = has.each };
        on_packet = λ phases plan done left station channel octets history are some due has.
            let hearings = hearings_of given plan.fates station channel octets history in
            let hearing = hearing_of given plan.fates station channel octets history in
            let event = Transmitted station channel octets hearings in
            let one = one_hearing given are_two plan.fates station channel octets history (among given.stations done left station are) in
            let same = ap (λ xs. history ++ Transmitted station channel octets xs ∷ []) one in record {
              seen = keeps.on_packet phases plan done left station channel octets history are some due has.seen;
              unfixed = tt;
              aired = λ other heard in_other is side number. ap (λ h. is_fixed words side number (journal_of h)) same ∙ packet_fixed words side number history station channel octets hearing;
              fixing = fixing_event words given history event (λ other. refl)
                  (λ number side. ap (fixing_at words number side) same ∙ packet_fixing words side number history station channel octets hearing)
                  (λ other handle. number_sent other handle history station channel octets hearings) has.fixing;
              each = each_event (FixingBefore words given) history event has.each has.fixing;
            };
        on_air = λ phases history has.
            record { seen = keeps.on_air phases history has.seen; unfixed = tt; aired = has.aired; fixing = has.fixing; each = has.each };
        on_hearing = λ phases done left station history are some has.
            let received = packet_received station history in
            let call = step_of received in
            let in_it = among given.stations done left station are in
            let after = after_call given station call history in
            let seen = keeps.on_hearing phases done left station history are some has.seen in
            let lined = lined_at understood taken given are_two six (AtListening phases done (station ∷ left)) history has.seen.known in
            let lined_after = lined_at understood taken given are_two six (AtListening phases (done ++ station ∷ []) left) after seen.known in
            let phased =
            subst (λ b. PhasedBy given history station (if b then at_stage (Within (suc phases)) (turns_begun history) else at_stage (Within phases) (turns_begun history)))
            (not_before given.stations done left station distinct are) (phase_by (AtListening phases done (station ∷ left)) history has.seen station in_it) in
            let turns = turns_called station call (notes_after (setup_at given station) (facts_at given station history) call) history in record {
              seen = seen;
              unfixed = tt;
              aired = received_aired words given station call history has.aired;
              fixing = fixing_call words given station call (no_octet received) history lined lined_after
                  (passes_fixing words given station phases history lined lined_after in_it phased (seen.holds.so_far.last.each station in_it)
                  (one_slot phases done left station history after in_it phased turns seen) (λ octets. has.aired station octets in_it) (has.fixing station in_it))
                  (λ other in_other differs. has.fixing other in_other);
              each = call_each words given station call history has.each (at_phase words given history station received has.fixing);
            };
        on_heard = λ phases history has.
            record { seen = keeps.on_heard phases history has.seen; unfixed = tt; aired = has.aired; fixing = has.fixing; each = has.each };
        on_phases = λ history has.
            record { seen = keeps.on_phases history has.seen; unfixed = tt; aired = has.aired; fixing = has.fixing; each = has.each };
        on_end = λ done left station history are some has.
            let after = after_call given station TurnEnds history in
            let seen = keeps.on_end done left station history are some has.seen in record {
              seen = seen;
              unfixed = tt;
              aired = received_aired words given station TurnEnds history has.aired;
              fixing = ending (done ++ station ∷ []) left after seen;
              each = call_each words given station TurnEnds history has.each tt;
            };
        on_ended = λ history has.
            record { seen = keeps.on_ended history has.seen; unfixed = tt; aired = has.aired; fixing = has.fixing; each = has.each };
      }
    where
      not_yet : (one : ℕ) (done : List ℕ) (station : ℕ) → is_in one (done ++ station ∷ []) ≡ false → (same : Bool) → (one == station) ≡ same
          → (same ≡ false) × (is_in one done ≡ false)
      not_yet one done station out true is = absurd (let h : true ≡ false = sym (in_more_same one station done is) ∙ out in absurd cc)
      not_yet one done station out false is = (refl, sym (in_more_other one station done is) ∙ out)

pub fixing_first : (words : Words) (given : Given) → AreFixingAt words given NoTurn []
fixing_first words given = record {
  seen = seen_first words given;
  unfixed = tt;
  aired = λ station octets in_it. none_received words [] station octets ((seen_first words given).holds.hearing.hears station in_it);
  fixing = λ station in_it. rests words given [] station (phased_at given NoTurn [] (seen_first words given).holds.hearing.stand station in_it).phase;
  each = tt;
}
