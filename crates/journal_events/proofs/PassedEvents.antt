-- A phase passes at a station: the events of its ends then, by the journal.
use Rattle.std.proofs.Common.{◌≡◌, ℕ, ◌++◌, ◌∷◌, Bool, true, false, Option, Some, None, List, [], refl, sym, ap, subst, ◌∙◌}
use Rattle.std.specs.Prelude.{◌&&◌}
use Rattle.ble_base.specs.declared.roles.Side.{Side}
use Rattle.journal_sending.specs.journal_leaving.journal_controls.Withheld.{Withheld, withheld_by}
use Rattle.journal_sending.specs.journal_leaving.controller_model.Facts.{Facts}
use Rattle.journal_sending.specs.journal_leaving.controller_model.Heard.{has_room}
use Rattle.journal_sending.specs.journal_leaving.controller_model.Side.{facts_after}
use Rattle.journal_sending.proofs.journal_leaving.controller_model.Always.{IsInTurn}
use Rattle.journal_sending.proofs.journal_leaving.journal_controls.host_answers.LineAnswers.{turn_quiet}
use Rattle.journal_sending.specs.journal_leaving.journal_controls.host_masks.Masks.{view_masks}
use Rattle.journal_sending.specs.journal_leaving.journal_acks.link_calls.Phases.{HasPassed, IsNew, Stays, Takes, link_worded}
use Rattle.journal_sending.specs.journal_leaving.journal_acks.link_calls.Uses.{listens_under, sends_under}
use Rattle.journal_sending.specs.journal_leaving.journal_ends.Asked.{Words}
use Rattle.journal_sending.specs.journal_leaving.journal_ends.GivenWords.{AreKept, words_next}
use Rattle.journal_sending.specs.journal_leaving.link_model.End.{facts_of}
use Rattle.journal_sending.specs.journal_leaving.link_model.Facts.{keyed_of}
use Rattle.journal_sending.specs.journal_leaving.journal_data.open_links.OpenLinks.{OpenLink, facts_in, link_at}
use Rattle.journal_sending.specs.journal_leaving.run_model.History.{Event, packet_received, turns_begun}
use Rattle.journal_sending.specs.journal_leaving.run_model.Journal.{journal_of, side_of}
use Rattle.journal_sending.specs.journal_leaving.run_model.Run.{Given, after_call, facts_at, setup_at, step_of}
use Rattle.journal_sending.specs.journal_leaving.link_model.Packets.{good_pdu, verdict_of}
use Rattle.journal_sending.specs.journal_leaving.journal_controls.Hearing.{keyed_if}
use Rattle.journal_sending.proofs.journal_leaving.journal_controls.ControlledEnds.{AreControlledSo, keyed_taking, whole as keyed_whole}
use Rattle.journal_sending.proofs.journal_leaving.journal_controls.EventMoves.{drawn_at, turn_at, withholds_at}
use Rattle.journal_sending.proofs.journal_leaving.journal_controls.FixedEnds.{sends_replying}
use Rattle.journal_sending.proofs.journal_leaving.journal_acks.link_calls.LinkCalls.{off_listens, off_sends, passes_under}
use Rattle.journal_sending.proofs.journal_leaving.journal_controls.NewLinks.{IsOfTurn, Left, New}
use Rattle.journal_sending.proofs.journal_leaving.journal_controls.PassedControls.{first_said, reaching_keeps, worded_response}
use Rattle.journal_sending.proofs.journal_leaving.journal_controls.EarlyAnswers.{none_answered}
use Rattle.journal_sending.proofs.journal_leaving.journal_acks.Counting.{IsBegun}
use Rattle.journal_sending.proofs.journal_leaving.journal_ends.WordedLinks.{worded_as}
use Rattle.journal_sending.proofs.journal_leaving.journal_acks.Exchanging.{number_at}
use Rattle.journal_sending.proofs.journal_leaving.journal_acks.PassedLinks.{passed_or_new}
use Rattle.journal_sending.proofs.journal_leaving.journal_acks.Standing.{PhasedBy}
use Rattle.journal_sending.proofs.journal_leaving.journal_ends.EndsKnown.{AreLined}
use Rattle.journal_sending.proofs.journal_leaving.journal_ends.SeenCalls.{AreSeenSo, whole as seen_whole}
use Rattle.journal_sending.proofs.journal_leaving.journal_ends.run_laws.Hearings.{own_facts}
use Rattle.journal_sending.proofs.journal_leaving.journal_ends.run_laws.TurnPlaces.{Within, at_stage}
use Rattle.journal_sending.proofs.journal_leaving.run_model.Calls.{same_station}
use Rattle.journal_sending.proofs.journal_leaving.run_model.LinkEnds.{received_by}
use Rattle.journal_sending.proofs.journal_leaving.run_model.Stations.{is_in}
use Rattle.journal_sending.proofs.journal_leaving.journal_acks.KeptCounts.{own_at}
use Rattle.journal_sending.proofs.journal_leaving.journal_ends.run_laws.TurnSteps.{phase_turn as turn_after}
use Rattle.journal_sending.specs.journal_leaving.journal_acks.link_calls.Turns.{sent_if}
use Rattle.journal_sending.specs.journal_leaving.link_model.Step.{PacketSent, Step as EndStep}
use Rattle.journal_events.specs.EventLines.{no_event_lines}
use Rattle.journal_events.specs.Told.{event_lines, event_reached, event_taking}
use Rattle.journal_events.proofs.EventMoves.{call_moving}
use Rattle.journal_events.proofs.EventEnds.{AreEventsSo, IsEventAt, goes_own, takes_none, whole}
use Rattle.journal_events.proofs.LinkEvents.{EventsTo, redrawn, same_events, taken_as, worded_events}
use Rattle.journal_events.proofs.OpenedEvents.{opens_event}

first_event : (link : OpenLink) → link.past ≡ [] → no_event_lines ≡ event_lines (facts_in link)
unfolding facts_of
first_event link none = ap (λ past. event_lines (facts_of link.setup past)) (sym none)

-- a link to which nothing happened sends nothing
some_past : (past : List EndStep) (step : EndStep) → past ++ step ∷ [] ≡ [] → ⊥
some_past [] step is = absurd cc
some_past (first ∷ past) step is = absurd cc

unsent_new : (sends : Bool) (slot : ℕ) (base link : OpenLink) → link ≡ sent_if sends slot base → link.past ≡ [] → sends ≡ false
unsent_new false slot base link is none = refl
unsent_new true slot base link is none = absurd (some_past base.past (PacketSent slot) (sym (ap (λ (l : OpenLink). l.past) is) ∙ none))

module _ (words : Words) (given : Given) (station : ℕ) (history : List Event) (phases : ℕ) (in_it : is_in station given.stations ≡ true)
    (phased : PhasedBy given history station (at_stage (Within phases) (turns_begun history)))
    (lined : AreLined given history) (lined_after : AreLined given (after_call given station (step_of (packet_received station history)) history))
    (seen : AreSeenSo words given (after_call given station (step_of (packet_received station history)) history)
    (λ one. packet_received one (after_call given station (step_of (packet_received station history)) history)))
    (held : withholds_at (side_of station) history ≡ withheld_by (view_masks (facts_at given station history).view))
    (slot_is : turn_at history ≡ (facts_at given station history).turn.slot)
    (kept : AreKept words)
    (gives : (octets : List ℕ) → packet_received station history ≡ Some octets
    → drawn_at words (side_of station) history ≡ words_next (setup_at given station) (facts_at given station history))
    (begun : (handle : ℕ) (link : OpenLink)
    → link_at handle (facts_at given station (after_call given station (step_of (packet_received station history)) history)).links ≡ Some link
    → IsBegun (after_call given station (step_of (packet_received station history)) history)
    (number_at station handle (after_call given station (step_of (packet_received station history)) history)) station link.setup)
    (of_turn : (handle : ℕ) (link : OpenLink) → link_at handle (facts_at given station (after_call given station (step_of (packet_received station history)) history)).links ≡ Some link
    → link.setup.opened ≡ (facts_at given station history).turn.slot
    → IsOfTurn given station handle history (after_call given station (step_of (packet_received station history)) history) link)
    (controls : AreControlledSo words given history (λ one. packet_received one history))
    (unsent : ℕ → Bool) (sent : unsent station ≡ false) (are : AreEventsSo words given history unsent (λ one. packet_received one history)) where
  abbrev received : Option (List ℕ)
  received = packet_received station history

  abbrev next : List Event
  next = after_call given station (step_of received) history

  abbrev facts : Facts
  facts = facts_at given station history

  abbrev side : Side
  side = side_of station

  abbrev withheld : Withheld
  withheld = withheld_by (view_masks facts.view)

  abbrev IsNow : ℕ → OpenLink → Type 0
  IsNow handle link = IsEventAt words true (packet_received station next) handle (facts_at given station next).turn link (number_at station handle next) side next

  phase_turn : (may : Option (List ℕ)) → IsInTurn (step_of may)
  phase_turn None = tt
  phase_turn (Some octets) = tt

  none_next : packet_received station next ≡ None
  none_next = received_by given station station (step_of received) history true (same_station station)

  turn_stays : turn_at next ≡ facts.turn.slot
  turn_stays = (call_moving words given (number_at station 0 history) side station (step_of received) history kept (turn_quiet given station (step_of received) history (phase_turn received))).turns ∙ slot_is

  -- where the end sends, in what the controller holds after the call
  doing_is : (handle : ℕ) → sends_under handle (facts_at given station next).turn.doing ≡ sends_under handle (facts_after (setup_at given station) facts (step_of received)).turn.doing
  doing_is handle = ap (λ (f : Facts). sends_under handle f.turn.doing) (own_facts given station (step_of received) history)

  abbrev next_sends : ℕ → Bool
  next_sends handle = sends_under handle (facts_after (setup_at given station) facts (step_of received)).turn.doing

  none_sent : (handle : ℕ) → (unsent station && sends_under handle facts.turn.doing) ≡ false
  none_sent handle = ap (λ b. b && sends_under handle facts.turn.doing) sent

  -- the slot of the turn stays
  slots : (sends : Bool) (held : OpenLink) → sent_if sends (turn_at history) held ≡ sent_if sends (facts_at given station next).turn.slot held
  slots sends held =
      ap (λ n. sent_if sends n held)
      (slot_is ∙ sym (ap (λ (f : Facts). f.turn.slot) (own_facts given station (step_of received) history) ∙ (turn_after (setup_at given station) facts received).slot))

  staying : (handle : ℕ) (link : OpenLink) → link_at handle (facts_at given station next).links ≡ Some link → number_at station handle next ≡ number_at station handle history
      → link_at handle facts.links ≡ Some link → next_sends handle ≡ false → (listens_under handle facts.turn.doing ≡ true → received ≡ None) → IsNow handle link
  staying handle link at number was none nothing =
      let own = number_at station handle history in
      let k = keyed_of (facts_in link) in
      goes_own words given station (step_of received) history in_it lined lined_after handle link at (packet_received station next) none_next number link was kept (phase_turn received) false k
      (event_lines (facts_in link)) (same_events side own (withholds_at side history) (drawn_at words side history) (turn_at history) link k) (doing_is handle ∙ none)
      (slots false)
      (keyed_whole words received handle facts.turn link own side history nothing (controls station handle link in_it was))
      (whole words (unsent station) received handle facts.turn link own side history (none_sent handle) nothing (are station handle link in_it was))

  fresh : (handle : ℕ) (link : OpenLink) → link_at handle (facts_at given station next).links ≡ Some link → link.past ≡ [] → link.setup.opened ≡ facts.turn.slot
      → next_sends handle ≡ false → IsNow handle link
  fresh handle link at none opened unsent_now = by (of_turn handle link at opened)
    where
      by : IsOfTurn given station handle history next link → IsNow handle link
      by (Left was off number) =
          staying handle link at number was unsent_now (λ on. absurd (let h : true ≡ false = sym on ∙ off_listens handle facts.turn.doing off in absurd cc))
      by (New most lines) =
          let number = number_at station handle next in
          let turn = (facts_at given station next).turn in
          let said = seen_whole words (packet_received station next) handle turn link number side next (λ on. none_next) (seen station handle link in_it at)
          ∙ first_said number station link none in
          let is_begun = begun handle link at in
          let unanswered = none_answered words side number is_begun.link [] (journal_of next) is_begun.is_link (is_begun.slot ∙ opened ∙ sym turn_stays) in record {
            base = link;
            is = sym (ap (λ b. sent_if b turn.slot link) (doing_is handle ∙ unsent_now));
            on = opens_event words given station (step_of received) history number link.setup.link.handle link.setup.link.role lines said unanswered ∙ first_event link none
                ∙ sym (takes_none (listens_under handle turn.doing) (packet_received station next) turn.slot link (λ on. none_next));
          }

  passed : (handle : ℕ) (link : OpenLink) → link_at handle (facts_at given station next).links ≡ Some link → number_at station handle next ≡ number_at station handle history
      → HasPassed (setup_at given station) facts (has_room (setup_at given station) facts) received handle (facts_after (setup_at given station) facts (step_of received)).turn.doing link → IsNow handle link
  passed handle link at number (IsNew end made opened off) =
      fresh handle link at (ap (λ (l : OpenLink). l.past) made) (ap (λ (l : OpenLink). l.setup.opened) made ∙ opened)
      (off_sends handle (facts_after (setup_at given station) facts (step_of received)).turn.doing off)
  passed handle link at number (Stays was none nothing listened) = staying handle link at number was none nothing
  passed handle link at number (Takes base octets was some on same) =
      let own = number_at station handle history in
      let setup = setup_at given station in
      let room = has_room setup facts in
      let sends = next_sends handle in
      let slot = facts.turn.slot in
      let may = good_pdu base.setup (facts_in base) octets in
      let k = keyed_if true slot octets base in
      let e = event_reached slot may (facts_in base) in
      let before = are station handle base in_it was in
      let doing = facts.turn.doing in
      let worded = link_worded setup facts doing base in
      let worded_is = worded_as setup facts doing base in
      let response = (facts_in worded).encryption.response in
      let here : EventsTo side own withheld response slot worded link sends k e =
      taken_as side own facts handle room octets base worded worded_is sends link (sends_replying setup facts received handle base octets was some on) same
      (verdict_of base.setup (facts_in base) octets) refl ((controls station handle base in_it was).handed octets on some) in
      let goes = redrawn side own withheld slot response (drawn_at words side history) base link sends k e (reaching_keeps slot octets base)
      (λ peripheral. worded_response setup facts phases handle base doing phased.phase on was peripheral ∙ sym (gives octets some)) (worded_events side own withheld slot response setup facts doing base link sends k e here) in
      let same_link : base ≡ before.base = before.is ∙ ap (λ b. sent_if b slot before.base) (none_sent handle) in
      goes_own words given station (step_of received) history in_it lined lined_after handle link at (packet_received station next) none_next number base was kept (phase_turn received) sends k e
      (subst (λ w. EventsTo side own w (drawn_at words side history) (turn_at history) base link sends k e) (sym held) (subst (λ n. EventsTo side own withheld (drawn_at words side history) n base link sends k e) (sym slot_is) goes))
      (doing_is handle) (slots sends)
      ((controls station handle base in_it was).keyed ∙ (λ i. Some (keyed_taking (on i) (some i) slot base)))
      (before.on ∙ (λ i. event_taking (on i) (some i) slot (sym same_link i)))

  -- a link that is new sends nothing
  new_unsent : (handle : ℕ) (link : OpenLink) → link.past ≡ []
      → HasPassed (setup_at given station) facts (has_room (setup_at given station) facts) received handle (facts_after (setup_at given station) facts (step_of received)).turn.doing link
      → next_sends handle ≡ false
  new_unsent handle link none (IsNew end made opened off) = off_sends handle (facts_after (setup_at given station) facts (step_of received)).turn.doing off
  new_unsent handle link none (Stays was unsent_now nothing listened) = unsent_now
  new_unsent handle link none (Takes base octets was some on same) = unsent_new (next_sends handle) facts.turn.slot _ link same none

  pub passes_own : (handle : ℕ) (link : OpenLink) → link_at handle (facts_at given station next).links ≡ Some link → IsNow handle link
  passes_own handle link at =
      passed_or_new given station history phased.uses.in_turn.listens (IsNow handle link) handle link at (passed handle link at)
      (λ new. fresh handle link at new.past new.opened
      (new_unsent handle link new.past
      (passes_under (setup_at given station) facts received handle link phased.uses.in_turn.listens (own_at given station (step_of received) history handle link at))))
