-- The PDUs that a call notes are those of one link, which began before this turn.
use Rattle.std.proofs.Common.{◌≡◌, ℕ, ◌+◌, ◌<◌, ◌==◌, Bool, true, false, Option, Some, None, List, [], ◌++◌, refl, sym, ap, subst, ◌∙◌}
use Rattle.std.specs.Prelude.{All}
use Rattle.std.specs.Option.{option_map}
use Rattle.std.proofs.lemmas.List.Elements.{All-append, All-from_recursion, All-nil}
use Rattle.ble_base.specs.declared.notes.Note.{Note}
use Rattle.ble_base.specs.declared.notes.Note.TheVariants.{Up, Sent, Took}
use Rattle.journal_packets.specs.controller_model.host_view.Links.{was_encrypted}
use Rattle.journal_packets.specs.link_model.Setup.{Setup as EndSetup}
use Rattle.journal_packets.specs.link_model.End.{notes_after as end_notes}
use Rattle.journal_packets.specs.link_model.Packets.{good_pdu}
use Rattle.journal_packets.specs.link_model.Step.{PacketSent}
use Rattle.journal_packets.specs.open_links.OpenLinks.{Links, OpenLink, facts_in, link_after, link_at, with_change}
use Rattle.journal_packets.proofs.Replies.{receiving_setup as received_setup_is}
use Rattle.journal_packets.proofs.open_links.Handles.{handle_is}
use Rattle.journal_packets.specs.controller_model.declared.doing.Doing.{Doing}
use Rattle.journal_packets.specs.controller_model.declared.doing.Doing.TheVariants.{Advertises, CentralSends, CentralListens, PeripheralListens}
use Rattle.journal_packets.specs.controller_model.declared.doing.Doing.TheVariants.{PeripheralSends}
use Rattle.journal_packets.specs.controller_model.Step.{TurnBegins}
use Rattle.journal_packets.specs.controller_model.Facts.{Setup, Facts}
use Rattle.journal_packets.specs.controller_model.Heard.{events_received, has_room, link_heard, link_received, notes_taken, replies_in, reply_if}
use Rattle.journal_packets.specs.controller_model.Events.{notes_of_events}
use Rattle.journal_packets.specs.controller_model.Outcome.{Outcome, facts_passed, notes_passed}
use Rattle.journal_packets.specs.controller_model.Packets.{facts_doing, links_sending, notes_doing, notes_sent}
use Rattle.journal_packets.specs.controller_model.Radio.{outcome_begun}
use Rattle.journal_packets.specs.controller_model.Side.{facts_after, notes_after}
use Rattle.journal_packets.proofs.controller_model.Always.{begun_doing}
use Rattle.journal_packets.proofs.controller_model.EndNotes.{received_each, sent_each}
use Rattle.journal_packets.proofs.controller_model.Handles.{HaveOwnHandles, handles_kept}
use Rattle.journal_packets.proofs.controller_model.Places.{link_receiving, receiving_is}
use Rattle.link_calls.specs.run_model.History.{Event, turns_begun}
use Rattle.link_calls.specs.run_model.Journal.{journal_of}
use Rattle.link_calls.specs.run_model.Run.{Given, facts_at, setup_at, step_of}
use Rattle.journal_packets.proofs.run_laws.LinkPasses.{is_on_link}
use Rattle.journal_packets.specs.journal_links.Begun.{LinkBegun, link_numbered}
use Rattle.link_calls.proofs.CallNotes.{HasNoData, all_more, begin_noted, events_noted, no_data, notes_starting, start_noted}
use Rattle.link_calls.proofs.CallNotes.{OpensNone, opening_none}
use Rattle.journal_acks.proofs.Exchanging.{number_at}
use Rattle.journal_acks.proofs.FirstCounts.{IsCallOf, IsOnly, OfLink, OfNone}
use Rattle.link_calls.proofs.LinkCalls.{begins_under, received_quiet}
use Rattle.link_calls.specs.Turns.{sent_if}
use Rattle.link_calls.specs.Uses.{listens_under, sends_under}
use Rattle.journal_acks.proofs.PhaseNotes.{IsOnLink, IsPhaseOf, IsPlainPhase, SendsFrom, SendsNothing, SendsOne, sends_from}
use Rattle.link_calls.proofs.UnderHandles.{change_by}
use Rattle.journal_acks.proofs.TwoStations.{same_number}
use Rattle.journal_acks.proofs.Worded.{link_worded, worded, worded_here, worded_setup}

-- the link with a number began before this turn
pub record IsBegunBefore (number : ℕ) (history : List Event) : Type 0 where
  pub link : LinkBegun
  pub is_link : link_numbered number (journal_of history) ≡ Some link
  pub before : link.slot + 1 < turns_begun history

-- ---- the notes of one link

of_no_other : (handle : ℕ) (note : Note) → HasNoData note → IsOnly handle note
of_no_other handle (Sent other number llid body) has = absurd (let h : true ≡ false = has.sends in absurd cc)
of_no_other handle (Took other number llid body) has = absurd (let h : true ≡ false = has.takes in absurd cc)
of_no_other handle (Up packet) has = tt
of_no_other handle note has = tt

only_sent : (slot handle : ℕ) (link : OpenLink) → link.setup.link.handle ≡ handle → All (IsOnly handle) (end_notes link.setup (facts_in link) (PacketSent slot))
only_sent slot handle link same = All-from_recursion (IsOnly handle) _ (sent_each (IsOnly handle) link.setup (facts_in link) (λ number llid octets. same))

only_took : (slot handle : ℕ) (room : Bool) (octets : List ℕ) (link : OpenLink) → link.setup.link.handle ≡ handle → All (IsOnly handle) (notes_taken slot room (Some link) octets)
only_took slot handle room octets link same =
    All-from_recursion (IsOnly handle) _
    (received_each (IsOnly handle) link.setup slot room (good_pdu link.setup (facts_in link) octets) (facts_in link)
    (record { took = λ number llid body. same; refused = λ kind code. tt; done = λ kind. tt }))

-- ---- a turn begins

change_here : (same : Bool) (handle other : ℕ) (change : OpenLink → OpenLink) (links : Links) (link : OpenLink) → (handle == other) ≡ same → same ≡ true
    → link_at other links ≡ Some link → link_at other (with_change handle change links) ≡ Some (change link)
change_here true handle other change links link is same at = change_by true handle other change links is ∙ ap (option_map change) at
change_here false handle other change links link is same at = absurd cc

-- what is to send was sent
pub sent_at : (slot other : ℕ) (doing : Doing) (links : Links) (link : OpenLink) → sends_under other doing ≡ true → link_at other links ≡ Some link
    → link_at other (links_sending slot doing links) ≡ Some (link_after (PacketSent slot) link)
sent_at slot other (CentralSends handle) links link on at = change_here (handle == other) handle other (link_after (PacketSent slot)) links link refl on at
sent_at slot other (PeripheralSends handle) links link on at = change_here (handle == other) handle other (link_after (PacketSent slot)) links link refl on at
sent_at slot other (Advertises channel) links link on at = absurd cc
sent_at slot other doing links link on at = absurd cc

-- each link has its own handle as it is to send
pub own_begun : (setup : Setup) (slot : ℕ) (on : Bool) (facts : Facts) → HaveOwnHandles setup facts → HaveOwnHandles setup (outcome_begun slot on facts).facts
own_begun setup slot on facts own =
    begun_doing (HaveOwnHandles setup) (HaveOwnHandles setup) (handles_kept setup).turns.starts (λ doing next. HaveOwnHandles setup next)
    (λ doing next may has. has) slot on facts own

module _ (given : Given) (station : ℕ) (history : List Event) (own : HaveOwnHandles (setup_at given station) (facts_at given station history))
    (old : (handle : ℕ) (link : OpenLink) → link_at handle (facts_at given station history).links ≡ Some link → IsBegunBefore (number_at station handle history) history) where
  abbrev setup : Setup
  setup = setup_at given station

  abbrev facts : Facts
  facts = facts_at given station history

  pub begin_call : (slot : ℕ) (on : Bool) → IsCallOf given station (TurnBegins slot on) history
  begin_call slot on = by (sends_from (outcome_begun slot on facts).next (outcome_begun slot on facts).facts)
    where
      by : SendsFrom (outcome_begun slot on (facts_at given station history)).next (outcome_begun slot on (facts_at given station history)).facts
          → IsCallOf given station (TurnBegins slot on) history
      by (SendsNothing none) =
          let start = notes_starting slot facts in
          OfNone (All-append HasNoData start _ (start_noted HasNoData no_data slot facts) (subst (All HasNoData) (sym none) (All-nil HasNoData)))
      by (SendsOne other base found sends are) =
          let start = notes_starting slot facts in
          let outcome = outcome_begun slot on facts in
          let sent = sent_at outcome.facts.turn.slot other outcome.next outcome.facts.links base sends found in
          let begun = begins_under setup facts slot on other (link_after (PacketSent outcome.facts.turn.slot) base) sent in
          let has = old other begun.link begun.was in
          let handle = handle_is 0 other outcome.facts.links base (own_begun setup slot on facts own).handles found in
          OfLink other has.link has.is_link has.before
          (All-append (IsOnly other) start _ (all_more HasNoData (IsOnly other) (of_no_other other) start (start_noted HasNoData no_data slot facts))
          (subst (All (IsOnly other)) (sym are) (only_sent outcome.facts.turn.slot other base handle)))
          (begin_noted (OpensNone other) (opening_none other) setup slot on facts)

-- ---- a phase

pub listens_on_link : (handle : ℕ) (doing : Doing) → listens_under handle doing ≡ true → is_on_link doing ≡ true
listens_on_link handle (CentralListens other) on = refl
listens_on_link handle (PeripheralListens other) on = refl
listens_on_link handle (Advertises channel) on = absurd cc
listens_on_link handle other on = absurd cc

-- the link that received is under its handle still, and the one that sends
pub received_at : (other : ℕ) (octets : List ℕ) (room : Bool) (facts : Facts) (link : OpenLink) → link_at other facts.links ≡ Some link
    → link_at other (link_received other room octets facts).links ≡ Some (link_receiving other room octets facts link)
received_at other octets room facts link at =
    ap (link_at other) (receiving_is other room octets facts)
    ∙ change_here (other == other) other other (link_receiving other room octets facts) facts.links link refl (same_number other) at

only_reply : (replies : Bool) (other : ℕ) (then_on : Facts) (link : OpenLink) → link_at other then_on.links ≡ Some link → link.setup.link.handle ≡ other
    → All (IsOnly other) (notes_doing (reply_if replies other) then_on)
only_reply true other then_on link at same = subst (All (IsOnly other)) (sym (ap (notes_sent then_on.turn.slot) at)) (only_sent then_on.turn.slot other link same)
only_reply false other then_on link at same = All-nil (IsOnly other)

-- what the link under a handle is after it received a packet, and answered it or not
pub taken_at : (setup : Setup) (facts : Facts) (other : ℕ) (octets : List ℕ) (link : OpenLink) → link_at other facts.links ≡ Some link
    → link_at other (facts_passed (link_heard setup other octets facts)).links
    ≡ Some (sent_if (sends_under other (link_heard setup other octets facts).next) facts.turn.slot (link_receiving other (has_room setup facts) octets facts link))
taken_at setup facts other octets link at = by (replies_in facts.turn.slot room (link_at other facts.links) octets)
  where
    room : Bool
    room = has_room setup facts

    taken : OpenLink
    taken = link_receiving other room octets facts link

    by : (replies : Bool) → link_at other (facts_doing (reply_if replies other) (link_received other room octets facts)).links
        ≡ Some (sent_if (sends_under other (reply_if replies other)) facts.turn.slot taken)
    by false = received_at other octets room facts link at
    by true =
        sent_at facts.turn.slot other (PeripheralSends other) (link_received other room octets facts).links taken (same_number other) (received_at other octets room facts link at)
        ∙ ap (λ b. Some (sent_if b facts.turn.slot taken)) (sym (same_number other))

-- where there is no link nothing is noted
pub unfound : (setup : Setup) (facts : Facts) (other : ℕ) (octets : List ℕ) → link_at other facts.links ≡ None → notes_passed (link_heard setup other octets facts) ≡ []
unfound setup facts other octets none =
    let slot = facts.turn.slot in
    let room = has_room setup facts in
    let encrypted = was_encrypted other facts.view.links in
    ap (λ found. notes_taken slot room found octets ++ notes_of_events facts.view (events_received encrypted other slot room found octets)
    ++ notes_doing (reply_if (replies_in slot room found octets) other) (link_received other room octets facts)) none

pub on_link_notes : (setup : Setup) (facts : Facts) (received : Option (List ℕ)) (octets : List ℕ) (outcome : Outcome) → received ≡ Some octets
    → notes_after setup facts (step_of (Some octets)) ≡ notes_passed outcome → notes_after setup facts (step_of received) ≡ notes_passed outcome
on_link_notes setup facts received octets outcome some are = ap (λ may. notes_after setup facts (step_of may)) some ∙ are

pub on_link_facts : (setup : Setup) (facts : Facts) (received : Option (List ℕ)) (octets : List ℕ) (outcome : Outcome) → received ≡ Some octets
    → facts_after setup facts (step_of (Some octets)) ≡ facts_passed outcome → facts_after setup facts (step_of received) ≡ facts_passed outcome
on_link_facts setup facts received octets outcome some are = ap (λ may. facts_after setup facts (step_of may)) some ∙ are

module _ (given : Given) (station : ℕ) (history : List Event) (received : Option (List ℕ)) (own : HaveOwnHandles (setup_at given station) (facts_at given station history))
    (old : is_on_link (facts_at given station history).turn.doing ≡ true → (handle : ℕ) (link : OpenLink) → link_at handle (facts_at given station history).links ≡ Some link
    → IsBegunBefore (number_at station handle history) history) where
  pub phase_call : IsPhaseOf (setup_at given station) (facts_at given station history) received → IsCallOf given station (step_of received) history
  phase_call (IsPlainPhase none plain) = OfNone plain
  phase_call (IsOnLink other words octets some listens heard_is) = by (link_at other (facts_at given station history).links) refl
    where
      heard : Facts
      heard = worded words (setup_at given station) other (facts_at given station history)

      are : notes_after (setup_at given station) (facts_at given station history) (step_of received)
          ≡ notes_passed (link_heard (setup_at given station) other octets (worded words (setup_at given station) other (facts_at given station history)))
      are = on_link_notes (setup_at given station) (facts_at given station history) received octets (link_heard (setup_at given station) other octets heard) some (ap notes_passed heard_is)

      by : (found : Option OpenLink) → link_at other (facts_at given station history).links ≡ found → IsCallOf given station (step_of received) history
      by None is =
          OfNone (subst (All HasNoData) (sym (are ∙ unfound (setup_at given station) heard other octets (worded_here words (setup_at given station) other (facts_at given station history) None is)))
          (All-nil HasNoData))
      by (Some link) is =
          let setup = setup_at given station in
          let facts = facts_at given station history in
          let base = link_worded words setup facts link in
          let base_is = worded_here words setup other facts (Some link) is in
          let room = has_room setup heard in
          let slot = heard.turn.slot in
          let events = events_received (was_encrypted other heard.view.links) other slot room (link_at other heard.links) octets in
          let handle = ap (λ (end : EndSetup). end.link.handle) (worded_setup setup facts link words) ∙ handle_is 0 other facts.links link own.handles is in
          let has = old (listens_on_link other facts.turn.doing (listens other ∙ same_number other)) other link is in
          OfLink other has.link has.is_link has.before
          (subst (All (IsOnly other)) (sym are)
          (All-append (IsOnly other) (notes_taken slot room (link_at other heard.links) octets ++ notes_of_events heard.view events) _
          (All-append (IsOnly other) (notes_taken slot room (link_at other heard.links) octets) (notes_of_events heard.view events)
          (subst (λ found. All (IsOnly other) (notes_taken slot room found octets)) (sym base_is) (only_took slot other room octets base handle))
          (all_more HasNoData (IsOnly other) (of_no_other other) _ (events_noted HasNoData no_data.feeds heard.view events)))
          (only_reply (replies_in slot room (link_at other heard.links) octets) other (link_received other room octets heard) (link_receiving other room octets heard base)
          (received_at other octets room heard base base_is) (ap (λ (end : EndSetup). end.link.handle) (received_setup_is other room octets heard base) ∙ handle))))
          (subst (All (OpensNone other)) (sym are) (received_quiet other setup other octets heard))
