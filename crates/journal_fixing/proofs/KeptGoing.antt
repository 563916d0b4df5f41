-- Each step of a run of two stations keeps that an end that awaits a packet heard nothing yet in the turn, and that an end
-- that answers is, by the journal, what it is as the packet has acknowledged its last control PDU.
use Rattle.std.proofs.Common.{◌≡◌, ℕ, suc, ◌==◌, ◌<◌, Bool, true, false, Option, Some, None, List, [], ◌∷◌, ◌++◌, map, refl, sym, ap, subst, ◌∙◌, arith}
use Rattle.std.specs.Prelude.{take, if◌then◌else◌}
use Rattle.std.proofs.lemmas.Bool.{eqb-true}
use Rattle.ble_base.specs.declared.roles.Side.{Side}
use Rattle.journal_controls.specs.controller_model.Facts.{Facts, Sends}
use Rattle.journal_controls.specs.controller_model.Heard.{has_room}
use Rattle.journal_controls.specs.controller_model.Side.{facts_after, notes_after}
use Rattle.journal_controls.specs.controller_model.Step.{Step as Call, HostOctet, PacketHeard, TurnBegins, TurnEnds}
use Rattle.journal_controls.specs.controller_model.declared.doing.Turn.{Turn}
use Rattle.radio_replay.specs.declared.fates.Fate.{Fate}
use Rattle.journal_controls.specs.journal_acks.link_calls.Phases.{HasPassed, IsNew, Stays, Takes}
use Rattle.journal_controls.specs.journal_acks.link_calls.Uses.{is_on_link, listens_under, sends_under, uses_under}
use Rattle.journal_controls.specs.journal_ends.Asked.{Words}
use Rattle.journal_controls.specs.journal_ends.GivenWords.{GivesWords}
use Rattle.journal_controls.specs.journal_ends.open_links.OpenLinks.{OpenLink, facts_in, link_at}
use Rattle.journal_controls.specs.link_model.Facts.{keyed_of}
use Rattle.journal_controls.specs.link_model.Packets.{good_pdu}
use Rattle.journal_controls.specs.run_model.Due.{Each}
use Rattle.journal_controls.specs.run_model.History.{Event, Called, Hearing, HostFed, Noted, Transmitted, TurnBegan, packet_received, turns_begun}
use Rattle.journal_controls.specs.run_model.Journal.{journal_of, side_of}
use Rattle.journal_controls.specs.run_model.LinkEnds.{HaveAddresses}
use Rattle.journal_controls.specs.run_model.Run.{Given, after_call, after_feed, after_octets, facts_at, hearings_of, octets_left, setup_at, step_of, use_at}
use Rattle.journal_controls.proofs.ControlledEnds.{whole as control_whole}
use Rattle.journal_controls.proofs.EventMoves.{keyed_at}
use Rattle.journal_controls.proofs.FixedEnds.{fixed_in}
use Rattle.journal_controls.proofs.KeptControls.{AreControlledAt, controls_first, controls_kept, none_before}
use Rattle.journal_controls.proofs.journal_acks.Counting.{IsEndCounted, facts_event, moved as count_moved}
use Rattle.journal_controls.proofs.journal_acks.Exchanging.{exchange_at, number_at, number_other, number_sent}
use Rattle.journal_controls.proofs.journal_acks.KeptCounts.{unsent}
use Rattle.journal_controls.proofs.journal_acks.PassedLinks.{passed_or_new}
use Rattle.journal_controls.proofs.journal_acks.Standing.{PhasedBy, listener_role, phased_at}
use Rattle.journal_controls.proofs.journal_acks.TwoStations.{IsOfTwo, hearing_of, one_hearing}
use Rattle.journal_controls.proofs.journal_ends.EndsKnown.{AreLined, lined_at}
use Rattle.journal_controls.proofs.journal_ends.SeenCalls.{IsSeenAt, moved as seen_moved, seen_in_link, whole as seen_whole}
use Rattle.journal_controls.proofs.journal_ends.SeenEvents.{seen_at}
use Rattle.journal_controls.proofs.journal_ends.run_laws.DistinctAccess.{AreApart}
use Rattle.journal_controls.proofs.journal_ends.run_laws.Hearings.{other_facts, own_facts}
use Rattle.journal_controls.proofs.journal_ends.run_laws.InAgreement.{IsStation, OpenedBefore}
use Rattle.journal_controls.proofs.journal_ends.run_laws.OpenSteps.{open_has}
use Rattle.journal_controls.proofs.journal_ends.run_laws.TurnPlaces.{Within, at_stage}
use Rattle.journal_controls.proofs.journal_links.OfTwo.{are_distinct}
use Rattle.journal_controls.proofs.journal_packets.AccessOrder.{AreNth}
use Rattle.journal_controls.proofs.link_model.Hearing.{IsHeardWhole}
use Rattle.journal_controls.proofs.run_model.Calls.{same_station, turns_called}
use Rattle.journal_controls.proofs.run_model.Fronts.{front_at}
use Rattle.journal_controls.proofs.run_model.LinkEnds.{AreTaken, IsUnderstood, received_by}
use Rattle.journal_controls.proofs.run_model.Places.{each_called, each_event}
use Rattle.journal_controls.proofs.run_model.Stations.{among, in_more_same, is_in, not_before}
use Rattle.journal_controls.proofs.run_model.Walk.{AfterPhases, AtBegins, AtFeeds, AtListening, AtPackets, IsKept, NoTurn, Place}
use Rattle.journal_fixing.specs.OnLines.{has_heard}
use Rattle.journal_fixing.proofs.FixingEvents.{call_going, call_heard, call_unheard, feed_unheard, turn_unheard}
use Rattle.journal_fixing.proofs.FixingLinks.{uses_on}
use Rattle.journal_fixing.proofs.GoingLinks.{IsGoing, awaits_under, awaits_uses, control_acking, later_listens, listens_once, receiving_setup, sent_first}
use Rattle.journal_fixing.proofs.GoingPackets.{IsGoingAt, IsUnheardAt, packet_awaited, packet_goes}

-- ---- what is kept

-- no end heard anything yet in the turn
abbrev pub AreSilent : Words → List Event → Type 0
AreSilent words history = (side : Side) (number : ℕ) → has_heard words side number (journal_of history) ≡ false

abbrev AreUnheardOf : Words → Given → List Event → ℕ → Type 0
AreUnheardOf words given history station = (handle : ℕ) (link : OpenLink) → link_at handle (facts_at given station history).links ≡ Some link
    → IsUnheardAt words (packet_received station history) handle (facts_at given station history).turn (number_at station handle history) (side_of station) history

abbrev AreGoingOf : Words → Given → List Event → ℕ → Type 0
AreGoingOf words given history station = (handle : ℕ) (link : OpenLink) → link_at handle (facts_at given station history).links ≡ Some link
    → IsGoingAt words (packet_received station history) handle (facts_at given station history).turn link (number_at station handle history) (side_of station) history

record AreHeard (words : Words) (given : Given) (history : List Event) : Type 0 where
  unheard : (station : ℕ) → is_in station given.stations ≡ true → AreUnheardOf words given history station
  going : (station : ℕ) → is_in station given.stations ≡ true → AreGoingOf words given history station

abbrev IsSoFar : Words → Given → Place → List Event → Type 0
IsSoFar words given (AtFeeds done left) history = AreSilent words history
IsSoFar words given (AtBegins done left) history = AreSilent words history
IsSoFar words given (AfterPhases phases) history = AreHeard words given history
IsSoFar words given (AtPackets phases done left) history = AreHeard words given history
IsSoFar words given (AtListening phases done left) history = AreHeard words given history
IsSoFar words given place history = Unit {0}

-- before a station begins a turn, and before it is called with a packet
abbrev pub AtCall : Words → Given → List Event → ℕ → Call → Type 0
AtCall words given before station (TurnBegins slot on) = AreSilent words before
AtCall words given before station (PacketHeard octets) = is_in station given.stations ≡ true → (handle : ℕ) (link : OpenLink) (pdu : List ℕ)
    → link_at handle (facts_at given station before).links ≡ Some link → listens_under handle (facts_at given station before).turn.doing ≡ true
    → good_pdu link.setup (facts_in link) octets ≡ Some pdu → IsGoing words (number_at station handle before) (side_of station) before (control_acking (facts_in link) pdu)
AtCall words given before station call = Unit {0}

abbrev pub GoingBefore : Words → Given → List Event → Event → Type 0
GoingBefore words given before (Called station call) = AtCall words given before station call
GoingBefore words given before (TurnBegan slot radios) = Unit {0}
GoingBefore words given before (HostFed station octets) = Unit {0}
GoingBefore words given before (Noted station note) = Unit {0}
GoingBefore words given before (Transmitted station channel octets hearings) = Unit {0}

pub record AreGoingAt (words : Words) (given : Given) (place : Place) (history : List Event) : Type 0 where
  pub controls : AreControlledAt words given place history
  so_far : IsSoFar words given place history
  pub each : Each (GoingBefore words given) [] history

-- ---- what a host sends, and a call

octets_silent : (words : Words) (given : Given) (station : ℕ) (octets : List ℕ) (history : List Event) → AreSilent words history → AreSilent words (after_octets given station octets history)
octets_silent words given station [] history none = none
octets_silent words given station (octet ∷ octets) history none =
    octets_silent words given station octets (after_call given station (HostOctet octet) history) (λ side number. call_unheard words side number history given station (HostOctet octet) (none side number))

feed_silent : (words : Words) (given : Given) (station : ℕ) (octets : List ℕ) (history : List Event) → AreSilent words history → AreSilent words (after_feed given station octets history)
feed_silent words given station [] history none = none
feed_silent words given station (octet ∷ octets) history none =
    octets_silent words given station (octet ∷ octets) (history ++ HostFed station (octet ∷ octets) ∷ [])
    (λ side number. feed_unheard words side number history station (octet ∷ octets) (none side number))

-- a call, and all that is noted in it
call_each : (words : Words) (given : Given) (station : ℕ) (call : Call) (history : List Event) → Each (GoingBefore words given) [] history → AtCall words given history station call
    → Each (GoingBefore words given) [] (after_call given station call history)
call_each words given station call history each is =
    each_called (GoingBefore words given) station call (notes_after (setup_at given station) (facts_at given station history) call) history each is (λ before note. tt)

octets_each : (words : Words) (given : Given) (station : ℕ) (octets : List ℕ) (history : List Event) → Each (GoingBefore words given) [] history → Each (GoingBefore words given) [] (after_octets given station octets history)
octets_each words given station [] history each = each
octets_each words given station (octet ∷ octets) history each =
    octets_each words given station octets (after_call given station (HostOctet octet) history) (call_each words given station (HostOctet octet) history each tt)

feed_each : (words : Words) (given : Given) (station : ℕ) (octets : List ℕ) (history : List Event) → Each (GoingBefore words given) [] history → Each (GoingBefore words given) [] (after_feed given station octets history)
feed_each words given station [] history each = each
feed_each words given station (octet ∷ octets) history each =
    octets_each words given station (octet ∷ octets) (history ++ HostFed station (octet ∷ octets) ∷ [])
    (each_event (GoingBefore words given) history (HostFed station (octet ∷ octets)) each tt)

at_phase : (words : Words) (given : Given) (station : ℕ) (history : List Event) (received : Option (List ℕ)) → packet_received station history ≡ received
    → (is_in station given.stations ≡ true → AreGoingOf words given history station) → AtCall words given history station (step_of received)
at_phase words given station history None is are = tt
at_phase words given station history (Some octets) is are = λ in_it handle link pdu at on good. are in_it handle link at octets pdu on is good

-- as the phases of a turn begin
all_silent : (words : Words) (given : Given) (history : List Event) → ((station : ℕ) → is_in station given.stations ≡ true → packet_received station history ≡ None) → AreSilent words history → AreHeard words given history
all_silent words given history deaf none = record {
  unheard = λ station in_it handle link at awaits silent. none (side_of station) (number_at station handle history);
  going = λ station in_it handle link at octets pdu on some good. absurd (let h : Some octets ≡ None = sym some ∙ deaf station in_it in absurd cc);
}

-- ---- a call in a phase

module _ (words : Words) (given : Given) (station : ℕ) (call : Call) (history : List Event) where
  abbrev called : List Event
  called = after_call given station call history

  -- a station that is not called
  module _ (other : ℕ) (differs : (other == station) ≡ false) where
    abbrev same_facts : facts_at given other called ≡ facts_at given other history
    same_facts = other_facts given station call history other differs

    other_received : packet_received other called ≡ packet_received other history
    other_received = received_by given other station call history false differs

    unheard_other : AreUnheardOf words given history other → AreUnheardOf words given called other
    unheard_other are = λ handle link at awaits none.
        let facts = sym same_facts in
        ap (λ n. has_heard words (side_of other) n (journal_of called)) (number_other given station call history other handle differs)
        ∙ call_unheard words (side_of other) (number_at other handle history) history given station call
        (are handle link (ap (λ (f : Facts). link_at handle f.links) facts ∙ at) (ap (λ (f : Facts). awaits_under handle f.turn.doing) facts ∙ awaits)
        (λ on. sym other_received ∙ none (ap (λ (f : Facts). listens_under handle f.turn.doing) same_facts ∙ on)))

    going_other : AreGoingOf words given history other → AreGoingOf words given called other
    going_other are = λ handle link at octets pdu on some good.
        let facts = sym same_facts in
        let number = number_at other handle history in
        let was = are handle link (ap (λ (f : Facts). link_at handle f.links) facts ∙ at) octets pdu (ap (λ (f : Facts). listens_under handle f.turn.doing) facts ∙ on)
        (sym other_received ∙ some) good in
        subst (λ n. IsGoing words n (side_of other) called (control_acking (facts_in link) pdu)) (sym (number_other given station call history other handle differs)) (record {
          heard = call_heard words (side_of other) number history given station call was.heard;
          going = call_going words (side_of other) number history given station call was.heard ∙ was.going;
        })

  heard_call : AreUnheardOf words given called station → AreHeard words given history → AreHeard words given called
  heard_call own are = record {
    unheard = λ other in_it. unheard other in_it (other == station) refl;
    going = λ other in_it. going other in_it (other == station) refl;
  }
    where
      unheard : (other : ℕ) → is_in other given.stations ≡ true → (same : Bool) → (other == station) ≡ same → AreUnheardOf words given (after_call given station call history) other
      unheard other in_it true one = subst (AreUnheardOf words given (after_call given station call history)) (sym (eqb-true other station one)) own
      unheard other in_it false differs = unheard_other other differs (are.unheard other in_it)

      going : (other : ℕ) → is_in other given.stations ≡ true → (same : Bool) → (other == station) ≡ same → AreGoingOf words given (after_call given station call history) other
      going other in_it true one = λ handle link at octets pdu on some good.
          absurd (let h : Some octets ≡ None = sym some ∙ received_by given other station call history true one in absurd cc)
      going other in_it false differs = going_other other differs (are.going other in_it)

-- its own station, as a phase passes
module _ (words : Words) (given : Given) (station phases : ℕ) (history : List Event) (lined : AreLined given history)
    (lined_after : AreLined given (after_call given station (step_of (packet_received station history)) history)) (in_it : is_in station given.stations ≡ true)
    (phased : PhasedBy given history station (at_stage (Within phases) (turns_begun history)))
    (later : PhasedBy given (after_call given station (step_of (packet_received station history)) history) station
    (at_stage (Within (suc phases)) (turns_begun (after_call given station (step_of (packet_received station history)) history))))
    (new_station : IsStation (setup_at given station) (facts_at given station (after_call given station (step_of (packet_received station history)) history)))
    (same_slot : (facts_at given station (after_call given station (step_of (packet_received station history)) history)).turn.slot ≡ (facts_at given station history).turn.slot)
    (are : AreUnheardOf words given history station) where
  abbrev received : Option (List ℕ)
  received = packet_received station history

  abbrev passed : List Event
  passed = after_call given station (step_of received) history

  abbrev held : Facts
  held = facts_at given station history

  abbrev next : Facts
  next = facts_after (setup_at given station) held (step_of received)

  abbrev now : Facts
  now = facts_at given station passed

  same_now : now ≡ next
  same_now = own_facts given station (step_of received) history

  passed_unheard : (handle : ℕ) (link : OpenLink) → link_at handle now.links ≡ Some link → number_at station handle passed ≡ number_at station handle history
      → awaits_under handle now.turn.doing ≡ true → HasPassed (setup_at given station) held (has_room (setup_at given station) held) received handle next.turn.doing link
      → has_heard words (side_of station) (number_at station handle passed) (journal_of passed) ≡ false
  passed_unheard handle link at number awaits (IsNew end made opened off) =
      absurd (let h : true ≡ false = sym (uses_on handle now.turn.doing (awaits_uses handle now.turn.doing awaits)) ∙ ap (λ (f : Facts). is_on_link f.turn.doing) same_now ∙ off in absurd cc)
  passed_unheard handle link at number awaits (Stays was none nothing listened) =
      let side = side_of station in
      let on = later_listens phases handle now.links now.turn.doing later.phase awaits in
      let sent = listened (ap (λ (f : Facts). listens_under handle f.turn.doing) (sym same_now) ∙ on) in
      ap (λ n. has_heard words side n (journal_of passed)) number
      ∙ call_unheard words side (number_at station handle history) history given station (step_of received)
      (are handle link was (sent_first phases handle held.links now.links held.turn.doing now.turn.doing phased.phase later.phase on sent) nothing)
  passed_unheard handle link at number awaits (Takes base octets was some on same) =
      absurd (listens_once phases base link (ap (λ (l : OpenLink). l.setup) same ∙ receiving_setup (sends_under handle next.turn.doing) (setup_at given station) handle (has_room (setup_at given station) held) octets held base)
      (listener_role phases held.links held.turn.doing handle base phased.phase on was)
      (listener_role (suc phases) now.links now.turn.doing handle link later.phase (later_listens phases handle now.links now.turn.doing later.phase awaits) at))

  -- a link that is new is not used
  new_unused : (handle : ℕ) (link : OpenLink) → link_at handle now.links ≡ Some link → link.setup.opened ≡ held.turn.slot → uses_under handle now.turn.doing ≡ true → ⊥
  new_unused handle link at opened uses =
      let before : link.setup.opened < now.turn.slot = open_has (OpenedBefore now.turn.slot) 0 handle now.links link (new_station.old (uses_on handle now.turn.doing uses)) at in
      let same = same_slot in
      absurd (omega (arith, before, opened, same))

  passes_unheard : AreUnheardOf words given passed station
  passes_unheard = λ handle link at awaits none.
      passed_or_new given station history phased.uses.in_turn.listens
      (has_heard words (side_of station) (number_at station handle passed) (journal_of passed) ≡ false) handle link at
      (λ number passing. passed_unheard handle link at number awaits passing)
      (λ new. absurd (new_unused handle link at new.opened (awaits_uses handle now.turn.doing awaits)))

-- ---- each step

module _ (words : Words) (heard_whole : IsHeardWhole) (understood : IsUnderstood) (taken : AreTaken) (nth : AreNth) (apart : AreApart) (given : Given) (are_two : IsOfTwo given)
    (six : HaveAddresses given) (gives : GivesWords given words) where
  -- ---- a packet

  module _ (phases : ℕ) (done left : List ℕ) (station channel : ℕ) (octets : List ℕ) (fates : List Fate) (history : List Event) (stations_are : given.stations ≡ done ++ station ∷ left)
      (wanted : use_at given station history ≡ Sends channel octets) (has : AreGoingAt words given (AtPackets phases done (station ∷ left)) history) where
    abbrev place_before : Place
    place_before = AtPackets phases done (station ∷ left)

    abbrev place_after : Place
    place_after = AtPackets phases (done ++ station ∷ []) left

    abbrev hearing : Hearing
    hearing = hearing_of given fates station channel octets history

    abbrev hearings : List Hearing
    hearings = hearings_of given fates station channel octets history

    abbrev after : List Event
    after = history ++ Transmitted station channel octets hearings ∷ []

    abbrev aired : List Event
    aired = history ++ Transmitted station channel octets (hearing ∷ []) ∷ []

    aired_is : after ≡ aired
    aired_is = ap (λ xs. history ++ Transmitted station channel octets xs ∷ []) (one_hearing given are_two fates station channel octets history (among given.stations done left station stations_are))

    module _ (controls : AreControlledAt words given place_after after) (one : ℕ) (in_one : is_in one given.stations ≡ true) (handle : ℕ) (link : OpenLink)
        (at : link_at handle (facts_at given one after).links ≡ Some link) where
      abbrev side : Side
      side = side_of one

      abbrev number : ℕ
      number = number_at one handle history

      abbrev turn : Turn
      turn = (facts_at given one history).turn

      numbers : number_at one handle after ≡ number
      numbers = number_sent one handle history station channel octets hearings

      same : facts_at given one after ≡ facts_at given one history
      same = facts_event given one history (Transmitted station channel octets hearings) refl

      turns : (facts_at given one after).turn ≡ turn
      turns = ap (λ (f : Facts). f.turn) same

      was_open : link_at handle (facts_at given one history).links ≡ Some link
      was_open = ap (λ (f : Facts). link_at handle f.links) (sym same) ∙ at

      none : listens_under handle turn.doing ≡ true → packet_received one history ≡ None
      none = none_before words given are_two phases done left station channel octets history stations_are wanted has.controls.seen one handle link in_one was_open

      unheard_before : awaits_under handle turn.doing ≡ true → has_heard words side number (journal_of history) ≡ false
      unheard_before awaits = has.so_far.unheard one in_one handle link was_open awaits none

      was_control : keyed_at words number side history ≡ Some (keyed_of (facts_in link))
      was_control = control_whole words (packet_received one history) handle turn link number side history none (has.controls.control one handle link in_one was_open)

      abbrev received_too : Option (List ℕ)
      received_too = packet_received one after

      was_seen : seen_at words number side history ≡ seen_in_link number side link
      was_seen = seen_whole words (packet_received one history) handle turn link number side history none (has.controls.seen.seen one handle link in_one was_open)

      now_seen : IsSeenAt words received_too handle turn link number side aired
      now_seen =
          subst (λ h. IsSeenAt words received_too handle turn link number side h) aired_is
          (seen_moved words handle link side after received_too received_too (facts_at given one after).turn turn (number_at one handle after) number refl (sym turns) (sym numbers)
          (controls.seen.seen one handle link in_one at))

      now_counted : IsEndCounted (unsent place_after one) received_too handle turn link (exchange_at number aired side)
      now_counted =
          count_moved handle link (unsent place_after one) (unsent place_after one) received_too received_too (facts_at given one after).turn turn
          (exchange_at (number_at one handle after) after side) (exchange_at number aired side) refl refl (sym turns) (sym (λ i. exchange_at (numbers i) (aired_is i) side))
          (controls.lined.counts.counted one handle link in_one at)

      now_unheard : IsUnheardAt words received_too handle (facts_at given one after).turn (number_at one handle after) side after
      now_unheard =
          let front = front_at given place_before history has.controls.seen.known.front in
          let is = packet_awaited words number side history station channel octets hearing (packet_received one history) received_too handle turn link (unsent place_before one) (unsent place_after one)
          none was_control was_seen now_seen (has.controls.lined.counts.counted one handle link in_one was_open) now_counted (has.controls.lined.lines one handle link in_one was_open)
          (fixed_in given history front.rest one handle link (are_distinct given are_two) in_one front.at was_open).fixes unheard_before in
          subst (λ t. IsUnheardAt words received_too handle t (number_at one handle after) side after) (sym turns)
          (subst (λ n. IsUnheardAt words received_too handle turn n side after) (sym numbers) (subst (λ h. IsUnheardAt words received_too handle turn number side h) (sym aired_is) is))

      now_going : IsGoingAt words received_too handle (facts_at given one after).turn link (number_at one handle after) side after
      now_going =
          let front = front_at given place_before history has.controls.seen.known.front in
          let is = packet_goes words number side history station channel octets hearing (packet_received one history) received_too handle turn link (unsent place_before one) (unsent place_after one)
          none was_control was_seen now_seen (has.controls.lined.counts.counted one handle link in_one was_open) now_counted (has.controls.lined.lines one handle link in_one was_open)
          (fixed_in given history front.rest one handle link (are_distinct given are_two) in_one front.at was_open).fixes unheard_before in
          subst (λ t. IsGoingAt words received_too handle t link (number_at one handle after) side after) (sym turns)
          (subst (λ n. IsGoingAt words received_too handle turn link n side after) (sym numbers) (subst (λ h. IsGoingAt words received_too handle turn link number side h) (sym aired_is) is))

  pub going_kept : IsKept given (AreGoingAt words given)
  going_kept =
      let keeps = controls_kept words heard_whole understood taken nth apart given are_two six gives in
      let distinct = are_distinct given are_two in record {
        on_turn = λ slot plan history begun at has.
            let event = TurnBegan slot (map plan.radio_of given.stations) in record {
              controls = keeps.on_turn slot plan history begun at has.controls;
              so_far = λ side number. turn_unheard words side number history slot (map plan.radio_of given.stations);
              each = each_event (GoingBefore words given) history event has.each tt;
            };
        on_feed = λ plan done left station history are some now has.
            let octets = take (plan.feed_of station) (octets_left given station history) in record {
              controls = keeps.on_feed plan done left station history are some now has.controls;
              so_far = feed_silent words given station octets history has.so_far;
              each = feed_each words given station octets history has.each;
            };
        on_fed = λ history has. record { controls = keeps.on_fed history has.controls; so_far = has.so_far; each = has.each };
        on_begin = λ slot plan done left station history are due has.
            let call = TurnBegins slot (plan.radio_of station) in record {
              controls = keeps.on_begin slot plan done left station history are due has.controls;
              so_far = λ side number. call_unheard words side number history given station call (has.so_far side number);
              each = call_each words given station call history has.each has.so_far;
            };
        on_begun = λ history has.
            let controls = keeps.on_begun history has.controls in
            record { controls = controls; so_far = all_silent words given history has.controls.seen.holds.hearing.hears has.so_far; each = has.each };
        on_phase = λ phases history few has. record { controls = keeps.on_phase phases history few has.controls; so_far = has.so_far; each = has.each };
        on_silence = λ phases done left station history are none has.
            record { controls = keeps.on_silence phases done left station history are none has.controls; so_far = has.so_far; each = has.each };
        on_packet = λ phases plan done left station channel octets history are some due has.
            let controls = keeps.on_packet phases plan done left station channel octets history are some due has.controls in
            let wanted = due.is_wanted in record {
              controls = controls;
              so_far = record {
                unheard = λ one in_one handle link at. now_unheard phases done left station channel octets plan.fates history are wanted has controls one in_one handle link at;
                going = λ one in_one handle link at. now_going phases done left station channel octets plan.fates history are wanted has controls one in_one handle link at;
              };
              each = each_event (GoingBefore words given) history (Transmitted station channel octets (hearings_of given plan.fates station channel octets history)) has.each tt;
            };
        on_air = λ phases history has. record { controls = keeps.on_air phases history has.controls; so_far = has.so_far; each = has.each };
        on_hearing = λ phases done left station history are some has.
            let received = packet_received station history in
            let call = step_of received in
            let in_it = among given.stations done left station are in
            let after = after_call given station call history in
            let place = AtListening phases done (station ∷ left) in
            let place_too = AtListening phases (done ++ station ∷ []) left in
            let controls = keeps.on_hearing phases done left station history are some has.controls in
            let lined = lined_at understood taken given are_two six place history has.controls.seen.known in
            let lined_after = lined_at understood taken given are_two six place_too after controls.seen.known in
            let phased = subst (λ b. PhasedBy given history station (if b then at_stage (Within (suc phases)) (turns_begun history) else at_stage (Within phases) (turns_begun history)))
            (not_before given.stations done left station distinct are) (phased_at given place history has.controls.seen.holds.hearing.stand station in_it) in
            let later = subst (λ b. PhasedBy given after station (if b then at_stage (Within (suc phases)) (turns_begun after) else at_stage (Within phases) (turns_begun after)))
            (in_more_same station station done (same_station station)) (phased_at given place_too after controls.seen.holds.hearing.stand station in_it) in
            let turns = turns_called station call (notes_after (setup_at given station) (facts_at given station history) call) history in
            let one = phased.uses.in_turn.slot_is in
            let two = later.uses.in_turn.slot_is in record {
              controls = controls;
              so_far = heard_call words given station call history
                  (passes_unheard words given station phases history lined lined_after in_it phased later (controls.seen.holds.so_far.last.each station in_it) (omega (arith, one, two, turns))
                  (has.so_far.unheard station in_it)) has.so_far;
              each = call_each words given station call history has.each (at_phase words given station history received refl (λ is. has.so_far.going station is));
            };
        on_heard = λ phases history has. record { controls = keeps.on_heard phases history has.controls; so_far = has.so_far; each = has.each };
        on_phases = λ history has. record { controls = keeps.on_phases history has.controls; so_far = tt; each = has.each };
        on_end = λ done left station history are some has. record {
          controls = keeps.on_end done left station history are some has.controls;
          so_far = tt;
          each = call_each words given station TurnEnds history has.each tt;
        };
        on_ended = λ history has. record { controls = keeps.on_ended history has.controls; so_far = tt; each = has.each };
      }

pub going_first : (words : Words) (given : Given) → AreGoingAt words given NoTurn []
going_first words given = record { controls = controls_first words given; so_far = tt; each = tt }
