-- A phase passes at a station: what its ends are then by the journal.
use Rattle.std.proofs.Common.{◌≡◌, ℕ, Bool, true, false, Option, Some, None, List, [], ◌∷◌, ◌++◌, map, refl, sym, ap, subst, ◌∙◌, append_assoc}
use Rattle.journal_ends.proofs.controller_model.Always.{IsInTurn}
use Rattle.std.proofs.lemmas.Bool.{eqb-true}
use Rattle.ble_base.specs.declared.roles.Role.TheVariants.{Central, Peripheral}
use Rattle.journal_ends.specs.Asked.{Words}
use Rattle.journal_ends.specs.GivenWords.{AreKept, words_next}
use Rattle.journal_ends.specs.controller_model.Facts.{Facts, Setup}
use Rattle.journal_ends.specs.controller_model.declared.doing.Doing.{Doing}
use Rattle.journal_ends.specs.controller_model.declared.doing.Doing.TheVariants.{CentralListens, PeripheralListens}
use Rattle.journal_ends.specs.controller_model.Heard.{has_room}
use Rattle.journal_ends.specs.controller_model.Links.{note_opened}
use Rattle.journal_ends.specs.controller_model.Side.{facts_after, notes_after}
use Rattle.host_masks.specs.Masks.{view_masks}
use Rattle.journal_ends.specs.Seen.{Says, seen_of}
use Rattle.journal_ends.specs.journal_acks.link_calls.Phases.{HasPassed, IsNew, Stays, Takes, link_worded}
use Rattle.journal_ends.specs.journal_acks.link_calls.Uses.{listens_under, sends_under}
use Rattle.journal_ends.specs.journal_links.LinkLines.{line_of}
use Rattle.journal_ends.specs.link_model.End.{facts_of}
use Rattle.journal_ends.specs.link_model.Facts.{Facts as EndFacts, first_facts, keyed_of}
use Rattle.journal_ends.specs.link_model.Packets.{good_pdu, is_forged, verdict_of}
use Rattle.journal_ends.specs.link_model.Step.{WordsGiven}
use Rattle.journal_ends.specs.open_links.OpenLinks.{OpenLink, facts_in, link_at}
use Rattle.journal_ends.specs.run_model.Feeding.{is_octet}
use Rattle.journal_ends.specs.run_model.History.{Event, Called, Noted, packet_received, turns_begun}
use Rattle.journal_ends.specs.run_model.Journal.{side_of}
use Rattle.journal_ends.specs.run_model.LinkEnds.{HaveAddresses}
use Rattle.journal_ends.specs.run_model.Run.{Given, after_call, facts_at, setup_at, step_of}
use Rattle.journal_ends.proofs.EndsKnown.{AreLined}
use Rattle.journal_ends.proofs.WordedLinks.{worded_as}
use Rattle.journal_ends.proofs.SeenCalls.{AreSeenSo, seen_in_link, whole as seen_whole}
use Rattle.journal_ends.proofs.journal_acks.Exchanging.{number_at}
use Rattle.journal_ends.proofs.journal_acks.PassedLinks.{passed_or_new}
use Rattle.journal_ends.proofs.journal_acks.Standing.{PhasedBy}
use Rattle.journal_ends.proofs.journal_acks.TwoStations.{IsOfTwo}
use Rattle.journal_ends.proofs.journal_acks.link_calls.LinkCalls.{off_listens}
use Rattle.journal_ends.proofs.journal_packets.SoFar.{IsBelongingSoFar}
use Rattle.journal_ends.proofs.run_laws.Agreed.{step_facts}
use Rattle.journal_ends.proofs.run_laws.LinkPhases.{HasRole, IsInPhase}
use Rattle.journal_ends.proofs.run_laws.TurnPlaces.{Within, at_stage}
use Rattle.journal_ends.proofs.run_model.Fronts.{front_at}
use Rattle.journal_ends.proofs.run_model.LinkEnds.{AreTaken, IsUnderstood, received_by}
use Rattle.journal_ends.proofs.run_model.Calls.{same_station}
use Rattle.journal_ends.proofs.run_model.Stations.{is_in}
use Rattle.journal_ends.proofs.run_model.Walk.{Place}
use Rattle.journal_controls.specs.Hearing.{keyed_forged_if, keyed_hearing, keyed_if}
use Rattle.journal_controls.specs.Withheld.{withheld_by}
use Rattle.journal_controls.proofs.ControlledEnds.{AreControlledSo, IsControlledAt, from_whole, keyed_taking, moved_own, whole}
use Rattle.journal_controls.proofs.EndMoves.{KeepsRole, forged_keeps, hearing_keeps, past_keeps}
use Rattle.journal_controls.proofs.EventMoves.{call_moving, drawn_at, turn_answers, turn_at, withholds_at}
use Rattle.journal_controls.proofs.FixedEnds.{sends_replying}
use Rattle.journal_controls.proofs.LinkMoves.{MovesTo, redrawn, same_moves, taken_as, worded_moves}
use Rattle.journal_controls.proofs.NewLinks.{IsOfTurn, Left, New}
use Rattle.journal_controls.proofs.OpenedControls.{opened_control}
use Rattle.journal_controls.proofs.OpenedMost.{opened_most}

pub no_octet : (received : Option (List ℕ)) → is_octet (step_of received) ≡ false
no_octet None = refl
no_octet (Some octets) = refl

-- an end to which nothing happened yet
pub first_said : (number station : ℕ) (link : OpenLink) → link.past ≡ []
    → seen_in_link number (side_of station) link ≡ Says (line_of (side_of station) number (note_opened link.setup.link)) ∷ []
unfolding seen_of
first_said number station link none = ap (λ past. seen_of (side_of station) number link.setup past) none

first_is : (link : OpenLink) → link.past ≡ [] → keyed_of (first_facts link.setup) ≡ keyed_of (facts_in link)
unfolding facts_of
first_is link none = ap (λ past. keyed_of (facts_of link.setup past)) (sym none)

-- what it would draw is what it was given before
given_response : (setup : Setup) (facts : Facts) (handle : ℕ) (link : OpenLink) → (facts_in (link_worded setup facts (PeripheralListens handle) link)).encryption.response ≡ words_next setup facts
given_response setup facts handle link =
    let next = words_next setup facts in
    ap (λ (f : EndFacts). f.encryption.response) (step_facts link (WordsGiven next.skd_s next.iv_s))

-- where it is a peripheral
pub worded_response : (setup : Setup) (facts : Facts) (phases handle : ℕ) (link : OpenLink) (doing : Doing) → IsInPhase phases facts.links doing → listens_under handle doing ≡ true
    → link_at handle facts.links ≡ Some link → link.setup.link.role ≡ Peripheral → (facts_in (link_worded setup facts doing link)).encryption.response ≡ words_next setup facts
worded_response setup facts phases handle link (PeripheralListens other) phase on at peripheral = given_response setup facts other link
worded_response setup facts phases handle link (CentralListens other) phase on at peripheral =
    absurd (let here = ap (λ n. link_at n facts.links) (eqb-true other handle on) ∙ at in
    let central : link.setup.link.role ≡ Central = subst (HasRole Central) here phase.1 in
    let h : Central ≡ Peripheral = sym central ∙ peripheral in absurd cc)
worded_response setup facts phases handle link doing phase on at peripheral = absurd cc

-- an end that a packet reaches has its role
pub reaching_keeps : (slot : ℕ) (octets : List ℕ) (link : OpenLink) → KeepsRole link.setup.link.role (keyed_if true slot octets link)
reaching_keeps slot octets link = by (is_forged link.setup (facts_in link) octets)
  where
    keeps : KeepsRole link.setup.link.role (keyed_hearing link.setup.link.role slot (good_pdu link.setup (facts_in link) octets) (facts_in link))
    keeps = hearing_keeps link.setup.link.role link.setup.link.role slot (good_pdu link.setup (facts_in link) octets) (facts_in link) (past_keeps link.setup link.past)

    by : (forged : Bool) → KeepsRole link.setup.link.role
        (keyed_forged_if forged (keyed_hearing link.setup.link.role slot (good_pdu link.setup (facts_in link) octets) (facts_in link)))
    by true = forged_keeps link.setup.link.role (keyed_hearing link.setup.link.role slot (good_pdu link.setup (facts_in link) octets) (facts_in link)) keeps
    by false = keeps

module _ (words : Words) (understood : IsUnderstood) (taken : AreTaken) (given : Given) (are_two : IsOfTwo given) (six : HaveAddresses given) (station : ℕ) (history : List Event) (phases : ℕ)
    (place : Place) (in_it : is_in station given.stations ≡ true) (phased : PhasedBy given history station (at_stage (Within phases) (turns_begun history)))
    (lined : AreLined given history) (lined_after : AreLined given (after_call given station (step_of (packet_received station history)) history))
    (known : IsBelongingSoFar given place (after_call given station (step_of (packet_received station history)) history))
    (seen : AreSeenSo words given (after_call given station (step_of (packet_received station history)) history)
    (λ one. packet_received one (after_call given station (step_of (packet_received station history)) history)))
    (held : withholds_at (side_of station) history ≡ withheld_by (view_masks (facts_at given station history).view))
    (slot_is : turn_at history ≡ (facts_at given station history).turn.slot)
    (kept : AreKept words)
    (gives : (octets : List ℕ) → packet_received station history ≡ Some octets
    → drawn_at words (side_of station) history ≡ words_next (setup_at given station) (facts_at given station history))
    (of_turn : (handle : ℕ) (link : OpenLink) → link_at handle (facts_at given station (after_call given station (step_of (packet_received station history)) history)).links ≡ Some link
    → link.setup.opened ≡ (facts_at given station history).turn.slot
    → IsOfTurn given station handle history (after_call given station (step_of (packet_received station history)) history) link)
    (are : AreControlledSo words given history (λ one. packet_received one history)) where
  abbrev received : Option (List ℕ)
  received = packet_received station history

  abbrev next : List Event
  next = after_call given station (step_of received) history

  abbrev facts : Facts
  facts = facts_at given station history

  abbrev IsNow : ℕ → OpenLink → Type 0
  IsNow handle link = IsControlledAt words (packet_received station next) handle (facts_at given station next).turn link (number_at station handle next) (side_of station) next

  phase_turn : (may : Option (List ℕ)) → IsInTurn (step_of may)
  phase_turn None = tt
  phase_turn (Some octets) = tt

  none_next : packet_received station next ≡ None
  none_next = received_by given station station (step_of received) history true (same_station station)

  turn_stays : turn_at next ≡ facts.turn.slot
  turn_stays =
      (call_moving words given (number_at station 0 history) (side_of station) station (step_of received) history kept
      (turn_answers given (side_of station) station (step_of received) history (no_octet received))).turns ∙ slot_is

  -- nothing happened to it
  stays : (handle : ℕ) (link : OpenLink) → link_at handle (facts_at given station next).links ≡ Some link → number_at station handle next ≡ number_at station handle history
      → link_at handle facts.links ≡ Some link → (listens_under handle facts.turn.doing ≡ true → received ≡ None) → IsNow handle link
  stays handle link at number was nothing =
      let own = number_at station handle history in
      moved_own words given station (step_of received) history in_it lined lined_after handle link at (packet_received station next) none_next number link was kept (phase_turn received) (keyed_of (facts_in link))
      (same_moves (side_of station) own (withholds_at (side_of station) history) (drawn_at words (side_of station) history) (turn_at history) link)
      (whole words received handle facts.turn link own (side_of station) history nothing (are station handle link in_it was))

  fresh : (handle : ℕ) (link : OpenLink) → link_at handle (facts_at given station next).links ≡ Some link → link.past ≡ [] → link.setup.opened ≡ facts.turn.slot
      → IsNow handle link
  fresh handle link at none opened = by (of_turn handle link at opened)
    where
      by : IsOfTurn given station handle history next link → IsNow handle link
      by (Left was off number) =
          stays handle link at number was (λ on. absurd (let h : true ≡ false = sym on ∙ off_listens handle facts.turn.doing off in absurd cc))
      by (New most lines) =
          let number = number_at station handle next in
          let turn = (facts_at given station next).turn in
          let front = front_at given place next known.front in
          let notes = map (Noted station) (notes_after (setup_at given station) facts (step_of received)) in
          let said = seen_whole words (packet_received station next) handle turn link number (side_of station) next (λ on. none_next) (seen station handle link in_it at)
          ∙ first_said number station link none in
          from_whole words (packet_received station next) handle turn link number (side_of station) next (λ on. none_next)
          (opened_control words understood taken given are_two six next front.rest number station link front.at known.asked.sent in_it (known.numbered.numbered station handle link at)
          (turn_stays ∙ sym opened) said
          (λ first later is. most ∙ opened_most given are_two station (step_of received) history (notes ++ front.rest) in_it (phase_turn received)
          (front.at ∙ append_assoc history (Called station (step_of received) ∷ notes) front.rest) number link.setup.link.handle link.setup.link.role first later lines is)
          ∙ ap Some (first_is link none))

  passed : (handle : ℕ) (link : OpenLink) → link_at handle (facts_at given station next).links ≡ Some link → number_at station handle next ≡ number_at station handle history
      → HasPassed (setup_at given station) facts (has_room (setup_at given station) facts) received handle (facts_after (setup_at given station) facts (step_of received)).turn.doing link → IsNow handle link
  passed handle link at number (IsNew end made opened off) = fresh handle link at (ap (λ (l : OpenLink). l.past) made) (ap (λ (l : OpenLink). l.setup.opened) made ∙ opened)
  passed handle link at number (Stays was none nothing listened) = stays handle link at number was nothing
  passed handle link at number (Takes base octets was some on same) =
      let own = number_at station handle history in
      let side = side_of station in
      let setup = setup_at given station in
      let room = has_room setup facts in
      let sends = sends_under handle (facts_after setup facts (step_of received)).turn.doing in
      let from = keyed_if true facts.turn.slot octets base in
      let worded = link_worded setup facts facts.turn.doing base in
      let worded_is = worded_as setup facts facts.turn.doing base in
      let response = (facts_in worded).encryption.response in
      let withheld = withheld_by (view_masks facts.view) in
      let before = are station handle base in_it was in
      let moves : MovesTo side own withheld response facts.turn.slot base link from =
      worded_moves side own withheld facts.turn.slot response setup facts facts.turn.doing base link from
      (taken_as side own facts handle room octets base worded worded_is sends link (sends_replying setup facts received handle base octets was some on) same
      (verdict_of base.setup (facts_in base) octets) refl (before.handed octets on some)) in
      moved_own words given station (step_of received) history in_it lined lined_after handle link at (packet_received station next) none_next number base was kept (phase_turn received) from
      (subst (λ w. MovesTo side own w (drawn_at words side history) (turn_at history) base link from) (sym held)
      (subst (λ n. MovesTo side own withheld (drawn_at words side history) n base link from) (sym slot_is)
      (redrawn side own withheld facts.turn.slot response (drawn_at words side history) base link from (reaching_keeps facts.turn.slot octets base)
      (λ peripheral. worded_response setup facts phases handle base facts.turn.doing phased.phase on was peripheral ∙ sym (gives octets some)) moves)))
      (before.keyed ∙ (λ i. Some (keyed_taking (on i) (some i) facts.turn.slot base)))

  pub passes_own : (handle : ℕ) (link : OpenLink) → link_at handle (facts_at given station next).links ≡ Some link → IsNow handle link
  passes_own handle link at =
      passed_or_new given station history phased.uses.in_turn.listens (IsNow handle link) handle link at (passed handle link at)
      (λ new. fresh handle link at new.past new.opened)
