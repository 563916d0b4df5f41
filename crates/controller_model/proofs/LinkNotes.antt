-- What is noted of links: which links are meant, what they note as they enter their events, and that a phase notes only
-- packets, links that are opened, and what procedures do with a packet.
use Rattle.std.proofs.Common.{◌≡◌, ℕ, ◌+◌, ◌≤◌, ◌==◌, Bool, true, false, List, [], ◌∷◌, ◌++◌, Option, Some, None, map, cond, refl, arith}
use Rattle.std.specs.Prelude.{All, filter, flat_map, ⊤}
use Rattle.std.specs.List.{AllByRecursion}
use Rattle.std.proofs.lemmas.Bool.{eq-eqb}
use Rattle.std.proofs.lemmas.List.Elements.{All-append, All-cons, All-from_recursion, All-nil}
use Rattle.acl_banks.specs.declared.pieces.Piece.{Piece}
use Rattle.ble_base.specs.declared.error_codes.ErrCode.{ErrCode}
use Rattle.ble_base.specs.declared.notes.Note.{Note}
use Rattle.ble_base.specs.declared.notes.Note.TheVariants.{Up, Sent, Took, Refused, Done}
use Rattle.ble_base.specs.declared.procedure_kinds.Kind.{Kind}
use Rattle.hci_evt.specs.declared.event.Event.{Event}
use Rattle.hci_evt.specs.declared.event.Event.TheVariants.{DisconnectionComplete, CompletedPackets, BufferOverflow}
use Rattle.hci_evt.specs.Event.{mask_bit_of, written}
use Rattle.host_view.specs.Links.{was_encrypted}
use Rattle.host_view.specs.View.{View}
use Rattle.link_commands.specs.open_links.link_model.declared.setup.LinkSetup.{LinkSetup}
use Rattle.link_commands.specs.open_links.link_model.Packets.{good_pdu}
use Rattle.host_view.specs.scan_init.Reports.{scan_answer}
use Rattle.link_commands.specs.open_links.declared.ended.LinkEnded.{LinkEnded}
use Rattle.link_commands.specs.open_links.Data.{completed_from}
use Rattle.link_commands.specs.open_links.link_model.End.{notes_after as end_notes}
use Rattle.link_commands.specs.open_links.link_model.Step.{EventEntered}
use Rattle.link_commands.specs.open_links.OpenLinks.{Links, OpenLink, HasHandle, HaveHandles, facts_in, link_at, link_from}
use Rattle.link_commands.specs.open_links.Turns.{due_in, ending_in, enters_in, links_without, notes_entering, notes_if, place_without, staying_by}
use Rattle.controller_model.specs.Facts.{Setup, Facts}
use Rattle.controller_model.specs.Events.{notes_of_events, passes}
use Rattle.controller_model.specs.declared.doing.Doing.{Doing}
use Rattle.controller_model.specs.declared.doing.Doing.TheVariants.{Advertises, CentralSends, PeripheralSends}
use Rattle.link_commands.specs.open_links.declared.offers.Offer.{Offer}
use Rattle.link_commands.specs.open_links.declared.offers.Offer.TheVariants.{NoLink, Empty, Overflow, Kept}
use Rattle.controller_model.specs.Data.{acl_packet, event_completed, facts_handed, note_received, notes_ended_turn, notes_handed, notes_offered, notes_pieces, pieces_handed}
use Rattle.controller_model.specs.Entering.{events_entering, notes_all_entering}
use Rattle.controller_model.specs.Heard.{events_received, events_reported, has_room, link_heard, notes_taken, opens, scanner_heard}
use Rattle.controller_model.specs.Links.{ends_for, events_opened, note_opened, note_shut, notes_ended, notes_leaving, notes_opened}
use Rattle.controller_model.specs.Outcome.{Outcome, notes_passed}
use Rattle.controller_model.specs.Packets.{notes_doing, notes_sent}
use Rattle.controller_model.proofs.EndNotes.{received_each, sent_each}
use Rattle.controller_model.proofs.Phases.{EachOutcome}
use Rattle.controller_model.proofs.ProcedureEvents.{AreOfProcedures, IsOfProcedure, entering_events}

-- ---- which links are meant

-- the links from this handle on are in the whole under their handles
abbrev pub AreIn : Links → ℕ → Links → Type 0
AreIn whole first links =
    (handle : ℕ) (link : OpenLink) → first ≤ handle → link_from first handle links ≡ Some link → link_at handle whole ≡ Some link

pub all_in : (whole : Links) → AreIn whole 0 whole
all_in whole handle link above is = is

pub first_in : (whole : Links) (first : ℕ) (link : OpenLink) (links : Links) → AreIn whole first (Some link ∷ links)
    → link_at first whole ≡ Some link
first_in whole first link links are = are first link (omega arith) (let same : (first == first) ≡ true = eq-eqb first first refl in rw same refl)

is_later : (first handle : ℕ) → first + 1 ≤ handle → (first == handle) ≡ false
is_later first handle above = grind (arith, above)

pub rest_in : (whole : Links) (first : ℕ) (place : Option OpenLink) (links : Links) → AreIn whole first (place ∷ links)
    → AreIn whole (first + 1) links
rest_in whole first place links are handle link above is =
    are handle link (omega (arith, above)) (rw (is_later first handle above) is)

-- ---- links that enter their events, if they stay

module _ (P : Note → Type 0) (up : (event : Event) → IsOfProcedure event → P (Up (record { items = written event }))) where
  pub procedures_too : (view : View) (events : List Event) → AreOfProcedures events → All P (notes_of_events view events)
  procedures_too view [] are = All-nil P
  procedures_too view (event ∷ events) are = by (passes view (mask_bit_of event)) (procedures_too view events are.1)
    where
      by : (passed : Bool) → All P (notes_of_events view events)
          → All P (map (λ event. Up (record { items = written event }))
          (cond passed (event ∷ filter (λ event. passes view (mask_bit_of event)) events) (filter (λ event. passes view (mask_bit_of event)) events)))
      by true rest = All-cons P _ _ (up event are.0) rest
      by false rest = rest

  module _ (slot : ℕ) (whole : Links)
      (each : (handle : ℕ) (link : OpenLink) → link.setup.link.handle ≡ handle → link_at handle whole ≡ Some link → due_in slot link ≡ None
      → enters_in slot link ≡ true → AllByRecursion P (end_notes link.setup (facts_in link) (EventEntered slot))) where
    if_enters : (enters : Bool) (handle : ℕ) (link : OpenLink) → enters_in slot link ≡ enters → link.setup.link.handle ≡ handle
        → link_at handle whole ≡ Some link → due_in slot link ≡ None → All P (notes_if enters slot link)
    if_enters false handle link is has is_open stays = All-nil P
    if_enters true handle link is has is_open stays = All-from_recursion P _ (each handle link has is_open stays is)

    if_stays : (reason : Option ℕ) (handle : ℕ) (link : OpenLink) → due_in slot link ≡ reason → link.setup.link.handle ≡ handle
        → link_at handle whole ≡ Some link → All P (notes_entering slot (staying_by reason link))
    if_stays None handle link stays has is_open = if_enters (enters_in slot link) handle link refl has is_open stays
    if_stays (Some reason) handle link ends has is_open = All-nil P

    at_place : (first : ℕ) (place : Option OpenLink) (links : Links) → HasHandle first place → AreIn whole first (place ∷ links)
        → All P (notes_entering slot (place_without (due_in slot) place))
    at_place first None links has are = All-nil P
    at_place first (Some link) links has are = if_stays (due_in slot link) first link refl has (first_in whole first link links are)

    pub entering_too : (view : View) (first : ℕ) (links : Links) → HaveHandles first links → AreIn whole first links
        → All P (notes_all_entering view slot first (links_without (due_in slot) links))
    entering_too view first [] have are = All-nil P
    entering_too view first (place ∷ links) have are =
        let now = place_without (due_in slot) place in
        let events = events_entering slot first now in
        All-append P (notes_entering slot now ++ notes_of_events view events) _
        (All-append P (notes_entering slot now) (notes_of_events view events) (at_place first place links have.0 are)
        (procedures_too view events (entering_events slot first now)))
        (entering_too view (first + 1) links have.1 (rest_in whole first place links are))

-- ---- packets, data, and links that are opened

-- a fact that says nothing of these
pub record IsOfOthers (P : Note → Type 0) : Type 0 where
  pub up : (octets : List ℕ) → P (Up (record { items = octets }))
  pub opened : (link : LinkSetup) → P (note_opened link)
  pub sent : (handle number llid : ℕ) (octets : List ℕ) → P (Sent handle number llid (record { items = octets }))
  pub took : (handle number llid : ℕ) (octets : List ℕ) → P (Took handle number llid (record { items = octets }))

module _ (P : Note → Type 0) (of : IsOfOthers P) where
  packets : (events : List Event) → All P (map (λ event. Up (record { items = written event })) events)
  packets [] = All-nil P
  packets (event ∷ events) = All-cons P _ _ (of.up (written event)) (packets events)

  pub events_too : (view : View) (events : List Event) → All P (notes_of_events view events)
  events_too view events = packets (filter (λ event. passes view (mask_bit_of event)) events)

  opened_too : (view : View) (link : LinkSetup) → All P (notes_opened view link)
  opened_too view link = All-cons P _ _ (of.opened link) (events_too view (events_opened view link))

  -- data
  sent_too : (slot : ℕ) (found : Option OpenLink) → All P (notes_sent slot found)
  sent_too slot None = All-nil P
  sent_too slot (Some link) =
      All-from_recursion P _ (sent_each P link.setup (facts_in link) (of.sent link.setup.link.handle))

  pub taken_too : ((handle : ℕ) (kind : Kind) (code : ErrCode) → P (Refused handle kind code)) → ((handle : ℕ) (kind : Kind) → P (Done handle kind))
      → (slot : ℕ) (room : Bool) (found : Option OpenLink) (octets : List ℕ) → All P (notes_taken slot room found octets)
  taken_too refused done slot room None octets = All-nil P
  taken_too refused done slot room (Some link) octets =
      let handle = link.setup.link.handle in
      All-from_recursion P _
      (received_each P link.setup slot room (good_pdu link.setup (facts_in link) octets) (facts_in link)
      (record { took = of.took handle; refused = refused handle; done = done handle }))

  pub doing_too : (doing : Doing) (facts : Facts) → All P (notes_doing doing facts)
  doing_too (CentralSends handle) facts = sent_too facts.turn.slot (link_at handle facts.links)
  doing_too (PeripheralSends handle) facts = sent_too facts.turn.slot (link_at handle facts.links)
  doing_too (Advertises channel) facts = All-nil P
  doing_too other facts = All-nil P

  pieces_too : (pieces : List (ℕ × Piece)) → All P (map note_received pieces)
  pieces_too [] = All-nil P
  pieces_too (piece ∷ pieces) = All-cons P _ _ (of.up (acl_packet piece)) (pieces_too pieces)

  pub handed_too : (facts : Facts) → All P (notes_handed facts)
  handed_too facts =
      All-append P (notes_pieces facts) _ (pieces_too (pieces_handed facts))
      (events_too facts.view (map event_completed (completed_from 0 facts.links)))

  -- links that end
  pub ends_too : (view : View) (ended : List LinkEnded) → AllByRecursion (λ one. P (note_shut one.handle one.reason.0)) ended
      → All P (flat_map (notes_ended view) ended)
  ends_too view [] shut = All-nil P
  ends_too view (one ∷ ended) shut =
      All-append P (notes_ended view one) (flat_map (notes_ended view) ended)
      (All-cons P _ _ shut.0 (events_too view (DisconnectionComplete 0 one.handle one.reason.0 ∷ []))) (ends_too view ended shut.1)

  pub ended_turn_too : (facts : Facts) → AllByRecursion (λ one. P (note_shut one.handle one.reason.0)) (ends_for ending_in (facts_handed facts))
      → All P (notes_ended_turn facts)
  ended_turn_too facts shut =
      All-append P (notes_handed facts) (notes_leaving (facts_handed facts)) (handed_too facts)
      (ends_too (facts_handed facts).view (ends_for ending_in (facts_handed facts)) shut)

  pub offered_too : (view : View) (offer : Offer) (handle : ℕ) → All P (notes_offered view offer handle)
  offered_too view NoLink handle = All-nil P
  offered_too view Empty handle = events_too view (CompletedPackets handle 1 ∷ [])
  offered_too view Overflow handle = events_too view (BufferOverflow 1 ∷ [])
  offered_too view Kept handle = All-nil P

  passed_too : (outcome : Outcome) → All P outcome.notes → All P (notes_passed outcome)
  passed_too outcome notes = All-append P outcome.notes _ notes (doing_too outcome.next outcome.facts)

  -- what comes of a phase of which this holds, where what a link notes of a packet has the fact
  pub phase_if : (setup : Setup) (facts : Facts) (R : Outcome → Type 0)
      → ((handle : ℕ) (octets : List ℕ) → R (link_heard setup handle octets facts)
      → All P (notes_taken facts.turn.slot (has_room setup facts) (link_at handle facts.links) octets))
      → EachOutcome setup facts (λ outcome. R outcome → All P (notes_passed outcome))
  phase_if setup facts R taken =
      let nothing = All-nil P in
      record {
        rests = λ holds. nothing;
        awaits_request = λ channel doing holds. nothing;
        awaits_response = λ channel advertiser doing holds. nothing;
        central_listens = λ handle doing holds. nothing;
        sent = λ channel link doing holds. passed_too (opens link facts) (opened_too facts.view link);
        responds = λ channel on doing is_on holds. nothing;
        taken = λ channel octets pdu on fields handle is_on hears takes free holds. passed_too (opens _ facts) (opened_too facts.view _);
        scanned = λ channel octets pdu on doing is_on hears holds.
            passed_too (scanner_heard (Some on) true channel pdu facts)
            (events_too facts.view (events_reported (scan_answer on.params facts.view.accepted on.recent pdu) pdu));
        answered = λ channel octets pdu on doing is_on hears holds.
            passed_too (scanner_heard (Some on) false channel pdu facts)
            (events_too facts.view (events_reported (scan_answer on.params facts.view.accepted on.recent pdu) pdu));
        connects = λ channel octets pdu on access handle doing is_on hears answers next free in_range holds. nothing;
        received = λ handle octets holds.
            let room = has_room setup facts in
            let place = link_at handle facts.links in
            passed_too (link_heard setup handle octets facts)
            (All-append P (notes_taken facts.turn.slot room place octets) _ (taken handle octets holds)
            (events_too facts.view (events_received (was_encrypted handle facts.view.links) handle facts.turn.slot room place octets)));
      }

  -- what comes of any phase
  pub phase_too : ((handle : ℕ) (kind : Kind) (code : ErrCode) → P (Refused handle kind code)) → ((handle : ℕ) (kind : Kind) → P (Done handle kind))
      → (setup : Setup) (facts : Facts) → EachOutcome setup facts (λ outcome. ⊤ → All P (notes_passed outcome))
  phase_too refused done setup facts =
      phase_if setup facts (λ outcome. ⊤)
      (λ handle octets holds. taken_too refused done facts.turn.slot (has_room setup facts) (link_at handle facts.links) octets)
