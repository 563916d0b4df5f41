-- A phase passes at a station: how its ends are to leave their links then, by the journal.
use Rattle.std.proofs.Common.{◌≡◌, ℕ, Bool, true, false, Option, Some, None, List, [], refl, sym, ap, subst, ◌∙◌}
use Rattle.std.specs.Prelude.{◌&&◌}
use Rattle.ble_base.specs.declared.roles.Side.{Side}
use Rattle.journal_controls.specs.Withheld.{Withheld, withheld_by}
use Rattle.journal_controls.specs.controller_model.Facts.{Facts}
use Rattle.journal_controls.specs.controller_model.Heard.{has_room}
use Rattle.journal_controls.specs.controller_model.Side.{facts_after}
use Rattle.journal_controls.proofs.controller_model.Always.{IsInTurn}
use Rattle.journal_controls.proofs.host_answers.LineAnswers.{turn_quiet}
use Rattle.journal_controls.specs.host_masks.Masks.{view_masks}
use Rattle.journal_controls.specs.journal_acks.link_calls.Phases.{HasPassed, IsNew, Stays, Takes, link_worded}
use Rattle.journal_controls.specs.journal_acks.link_calls.Uses.{listens_under, sends_under}
use Rattle.journal_controls.specs.journal_ends.Asked.{Words}
use Rattle.journal_controls.specs.journal_ends.GivenWords.{AreKept, words_next}
use Rattle.journal_controls.specs.link_model.End.{facts_of}
use Rattle.journal_controls.specs.link_model.Facts.{keyed_of, stays}
use Rattle.journal_controls.specs.open_links.OpenLinks.{OpenLink, facts_in, link_at}
use Rattle.journal_controls.specs.run_model.History.{Event, packet_received, turns_begun}
use Rattle.journal_controls.specs.run_model.Journal.{journal_of, side_of}
use Rattle.journal_controls.specs.run_model.Run.{Given, after_call, facts_at, setup_at, step_of}
use Rattle.journal_controls.specs.link_model.Packets.{good_pdu, verdict_of}
use Rattle.journal_controls.specs.Hearing.{keyed_if}
use Rattle.journal_controls.proofs.ControlledEnds.{AreControlledSo, keyed_taking, whole as keyed_whole}
use Rattle.journal_controls.proofs.EventMoves.{drawn_at, turn_at, withholds_at}
use Rattle.journal_controls.proofs.FixedEnds.{sends_replying}
use Rattle.journal_controls.proofs.PassedControls.{first_said, reaching_keeps, worded_response}
use Rattle.journal_controls.proofs.EarlyAnswers.{none_answered}
use Rattle.journal_controls.proofs.journal_acks.Counting.{IsBegun}
use Rattle.journal_controls.proofs.journal_ends.WordedLinks.{worded_as}
use Rattle.journal_controls.proofs.journal_acks.Exchanging.{number_at}
use Rattle.journal_controls.proofs.journal_acks.PassedLinks.{passed_or_new}
use Rattle.journal_controls.proofs.journal_acks.Standing.{PhasedBy}
use Rattle.journal_controls.proofs.journal_ends.EndsKnown.{AreLined}
use Rattle.journal_controls.proofs.journal_ends.SeenCalls.{AreSeenSo, whole as seen_whole}
use Rattle.journal_controls.proofs.journal_ends.run_laws.Hearings.{own_facts}
use Rattle.journal_controls.proofs.journal_ends.run_laws.TurnPlaces.{Within, at_stage}
use Rattle.journal_controls.proofs.run_model.Calls.{same_station}
use Rattle.journal_controls.proofs.run_model.LinkEnds.{received_by}
use Rattle.journal_controls.proofs.run_model.Stations.{is_in}
use Rattle.journal_leaving.proofs.EventMoves.{call_moving}
use Rattle.journal_leaving.proofs.LeavingEnds.{AreLeftSo, IsLeftAt, leaves_own, left_taking, takes_none, whole}
use Rattle.journal_leaving.specs.Hearing.{leaving_hearing}
use Rattle.journal_leaving.specs.Leaving.{leaving_sent_if}
use Rattle.journal_leaving.proofs.LineFolds.{sent_stays}
use Rattle.journal_leaving.proofs.LinkLeaves.{LeavesTo, redrawn, same_leaves, taken_as, worded_leaves}
use Rattle.journal_leaving.proofs.OpenedLeavings.{opened_stays}

first_leaving : (link : OpenLink) → link.past ≡ [] → stays ≡ (facts_in link).leaving
unfolding facts_of
first_leaving link none = ap (λ past. (facts_of link.setup past).leaving) (sym none)

module _ (words : Words) (given : Given) (station : ℕ) (history : List Event) (phases : ℕ) (in_it : is_in station given.stations ≡ true)
    (phased : PhasedBy given history station (at_stage (Within phases) (turns_begun history)))
    (lined : AreLined given history) (lined_after : AreLined given (after_call given station (step_of (packet_received station history)) history))
    (seen : AreSeenSo words given (after_call given station (step_of (packet_received station history)) history)
    (λ one. packet_received one (after_call given station (step_of (packet_received station history)) history)))
    (held : withholds_at (side_of station) history ≡ withheld_by (view_masks (facts_at given station history).view))
    (slot_is : turn_at history ≡ (facts_at given station history).turn.slot)
    (kept : AreKept words)
    (gives : (octets : List ℕ) → packet_received station history ≡ Some octets
    → drawn_at words (side_of station) history ≡ words_next (setup_at given station) (facts_at given station history))
    (begun : (handle : ℕ) (link : OpenLink)
    → link_at handle (facts_at given station (after_call given station (step_of (packet_received station history)) history)).links ≡ Some link
    → IsBegun (after_call given station (step_of (packet_received station history)) history)
    (number_at station handle (after_call given station (step_of (packet_received station history)) history)) station link.setup)
    (controls : AreControlledSo words given history (λ one. packet_received one history))
    (unsent : ℕ → Bool) (sent : unsent station ≡ false) (are : AreLeftSo words given history unsent (λ one. packet_received one history)) where
  abbrev received : Option (List ℕ)
  received = packet_received station history

  abbrev next : List Event
  next = after_call given station (step_of received) history

  abbrev facts : Facts
  facts = facts_at given station history

  abbrev side : Side
  side = side_of station

  abbrev withheld : Withheld
  withheld = withheld_by (view_masks facts.view)

  abbrev IsNow : ℕ → OpenLink → Type 0
  IsNow handle link = IsLeftAt words true (packet_received station next) handle (facts_at given station next).turn link (number_at station handle next) side next

  phase_turn : (may : Option (List ℕ)) → IsInTurn (step_of may)
  phase_turn None = tt
  phase_turn (Some octets) = tt

  none_next : packet_received station next ≡ None
  none_next = received_by given station station (step_of received) history true (same_station station)

  turn_stays : turn_at next ≡ facts.turn.slot
  turn_stays = (call_moving words given (number_at station 0 history) side station (step_of received) history kept (turn_quiet given station (step_of received) history (phase_turn received))).turns ∙ slot_is

  fresh : (handle : ℕ) (link : OpenLink) → link_at handle (facts_at given station next).links ≡ Some link → link.past ≡ [] → link.setup.opened ≡ facts.turn.slot
      → IsNow handle link
  fresh handle link at none opened =
      let number = number_at station handle next in
      let turn = (facts_at given station next).turn in
      let said = seen_whole words (packet_received station next) handle turn link number side next (λ on. none_next) (seen station handle link in_it at)
      ∙ first_said number station link none in
      let is_begun = begun handle link at in
      let unanswered = none_answered words side number is_begun.link [] (journal_of next) is_begun.is_link (is_begun.slot ∙ opened ∙ sym turn_stays) in record {
        leaving = stays;
        on = opened_stays words side number link.setup.link.handle link.setup.link.role (journal_of next) said unanswered;
        is = sent_stays (sends_under handle turn.doing) ∙ first_leaving link none
            ∙ sym (takes_none (listens_under handle turn.doing) (packet_received station next) turn.slot link (λ on. none_next));
      }

  -- where the end sends, in what the controller holds after the call
  doing_is : (handle : ℕ) → sends_under handle (facts_at given station next).turn.doing ≡ sends_under handle (facts_after (setup_at given station) facts (step_of received)).turn.doing
  doing_is handle = ap (λ (f : Facts). sends_under handle f.turn.doing) (own_facts given station (step_of received) history)

  none_sent : (handle : ℕ) → (unsent station && sends_under handle facts.turn.doing) ≡ false
  none_sent handle = ap (λ b. b && sends_under handle facts.turn.doing) sent

  passed : (handle : ℕ) (link : OpenLink) → link_at handle (facts_at given station next).links ≡ Some link → number_at station handle next ≡ number_at station handle history
      → HasPassed (setup_at given station) facts (has_room (setup_at given station) facts) received handle (facts_after (setup_at given station) facts (step_of received)).turn.doing link → IsNow handle link
  passed handle link at number (IsNew end made opened off) = fresh handle link at (ap (λ (l : OpenLink). l.past) made) (ap (λ (l : OpenLink). l.setup.opened) made ∙ opened)
  passed handle link at number (Stays was none nothing listened) =
      let own = number_at station handle history in
      let k = keyed_of (facts_in link) in
      leaves_own words given station (step_of received) history in_it lined lined_after handle link at (packet_received station next) none_next number link was kept (phase_turn received) false k (facts_in link).leaving
      (same_leaves side own (withholds_at side history) (drawn_at words side history) (turn_at history) link k) (doing_is handle ∙ none)
      (keyed_whole words received handle facts.turn link own side history nothing (controls station handle link in_it was))
      (whole words (unsent station) received handle facts.turn link own side history (none_sent handle) nothing (are station handle link in_it was))
  passed handle link at number (Takes base octets was some on same) =
      let own = number_at station handle history in
      let setup = setup_at given station in
      let room = has_room setup facts in
      let sends = sends_under handle (facts_after setup facts (step_of received)).turn.doing in
      let slot = facts.turn.slot in
      let may = good_pdu base.setup (facts_in base) octets in
      let k = keyed_if true slot octets base in
      let l = leaving_hearing base.setup.link.role slot may (facts_in base) in
      let left = are station handle base in_it was in
      let doing = facts.turn.doing in
      let worded = link_worded setup facts doing base in
      let worded_is = worded_as setup facts doing base in
      let response = (facts_in worded).encryption.response in
      let here : LeavesTo side own withheld response slot worded link sends k l =
      taken_as side own facts handle room octets base worded worded_is sends link (sends_replying setup facts received handle base octets was some on) same
      (verdict_of base.setup (facts_in base) octets) refl ((controls station handle base in_it was).handed octets on some) in
      let leaves = redrawn side own withheld slot response (drawn_at words side history) base link sends k l (reaching_keeps slot octets base)
      (λ peripheral. worded_response setup facts phases handle base doing phased.phase on was peripheral ∙ sym (gives octets some)) (worded_leaves side own withheld slot response setup facts doing base link sends k l here) in
      leaves_own words given station (step_of received) history in_it lined lined_after handle link at (packet_received station next) none_next number base was kept (phase_turn received) sends k l
      (subst (λ w. LeavesTo side own w (drawn_at words side history) (turn_at history) base link sends k l) (sym held) (subst (λ n. LeavesTo side own withheld (drawn_at words side history) n base link sends k l) (sym slot_is) leaves))
      (doing_is handle)
      ((controls station handle base in_it was).keyed ∙ (λ i. Some (keyed_taking (on i) (some i) slot base)))
      (left.on ∙ ap Some (ap (λ b. leaving_sent_if b left.leaving) (sym (none_sent handle)) ∙ left.is ∙ (λ i. left_taking (on i) (some i) slot base)))

  pub passes_own : (handle : ℕ) (link : OpenLink) → link_at handle (facts_at given station next).links ≡ Some link → IsNow handle link
  passes_own handle link at =
      passed_or_new given station history phased.uses.in_turn.listens (IsNow handle link) handle link at (passed handle link at)
      (λ new. fresh handle link at new.past new.opened)
