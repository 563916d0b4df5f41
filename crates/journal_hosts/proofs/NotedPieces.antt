-- The pieces that wait for the host of a controller, in order, by what it notes: those that it took and did not hand up.
use Rattle.std.proofs.Common.{◌≡◌, ℕ, ◌+◌, ◌==◌, ◌&&◌, Bool, true, false, Option, Some, None, List, [], ◌∷◌, ◌++◌, cond, map, refl, ap, sym, subst, ◌∙◌, append-nil, append_assoc}
use Rattle.std.specs.Prelude.{◌||◌, drop, filter, flat_map, fold, not, is_some, ⊤}
use Rattle.std.specs.List.{AllByRecursion, list_any}
use Rattle.std.proofs.lemmas.Bool.{eq-eqb, eqb-true}
use Rattle.std.proofs.lemmas.List.Sums.{fold-append}
use Rattle.acl_banks.specs.declared.pieces.Piece.{Piece}
use Rattle.ble_base.specs.declared.error_codes.ErrCode.{ErrCode}
use Rattle.ble_base.specs.declared.notes.Note.{Note}
use Rattle.ble_base.specs.declared.notes.Note.TheVariants.{Up, Shut, Took}
use Rattle.ble_base.specs.declared.procedure_kinds.Kind.{Kind}
use Rattle.data_pdu.specs.Header.{header_in}
use Rattle.h4_frames.specs.declared.packet.HostPacket.TheVariants.{Command as HostCommand, Acl}
use Rattle.h4_frames.specs.declared.packet.Fed.{Fed}
use Rattle.h4_frames.specs.declared.packet.Fed.TheVariants.{More, Packet, LostSync}
use Rattle.hci_cmd.specs.Command.{command_of}
use Rattle.hci_cmd.specs.declared.command.Command.{Command}
use Rattle.hci_cmd.specs.declared.command.Command.TheVariants.{Reset}
use Rattle.hci_cmd.specs.declared.command.CmdRead.{CmdRead}
use Rattle.hci_cmd.specs.declared.command.CmdRead.TheVariants.{Known, UnknownOpcode, BadLength}
use Rattle.hci_evt.specs.Event.{mask_bit_of, written}
use Rattle.hci_evt.specs.declared.event.Event.{Event}
use Rattle.hci_evt.specs.declared.event.Event.TheVariants.{BufferOverflow, CompletedPackets, DisconnectionComplete, HardwareError}
use Rattle.host_view.specs.Flow.{left_of}
use Rattle.host_view.specs.Noted.{is_acl_data}
use Rattle.host_view.specs.Status.{status_of}
use Rattle.host_view.specs.View.{View}
use Rattle.scan_init.specs.Reports.{does_ask, scan_answer}
use Rattle.journal_data.specs.link_model.Acknowledgement.{Pdu}
use Rattle.journal_data.specs.link_model.Controls.{is_procedure_pdu}
use Rattle.journal_data.specs.link_model.Data.{is_data, is_empty}
use Rattle.journal_data.specs.link_model.Entering.{done_notes}
use Rattle.journal_data.specs.link_model.Facts.{Facts as EndFacts}
use Rattle.journal_data.specs.link_model.Kept.{kept_from}
use Rattle.journal_data.specs.link_model.Packets.{good_pdu}
use Rattle.journal_data.specs.link_model.Pieces.{kept_if}
use Rattle.journal_data.specs.link_model.Receiving.{accepts, acked_kind, acks_control, facts_before_taking, given_if, given_notes, has_acknowledged, kept_given_if, received_notes, refused_notes, took_notes_if}
use Rattle.journal_data.specs.link_model.Setup.{Setup as EndSetup}
use Rattle.journal_data.specs.link_model.Verdicts.{pdu_of}
use Rattle.journal_data.specs.link_model.control_end.declared.answers.Taken.{Taken}
use Rattle.journal_data.specs.link_model.declared.setup.LinkSetup.{LinkSetup}
use Rattle.journal_data.specs.open_links.declared.ended.LinkEnded.{LinkEnded}
use Rattle.journal_data.specs.open_links.declared.offers.Offer.{Offer}
use Rattle.journal_data.specs.open_links.declared.offers.Offer.TheVariants.{NoLink, Empty, Overflow, Kept}
use Rattle.journal_data.specs.open_links.Data.{completed_from, received_past}
use Rattle.journal_data.specs.open_links.Ended.{received_without}
use Rattle.journal_data.specs.open_links.OpenLinks.{Links, OpenLink, facts_in, handles_from, link_at, link_from}
use Rattle.journal_data.specs.open_links.Turns.{due_in, ending_in, enters_in, notes_entering, notes_if}
use Rattle.journal_data.specs.controller_model.declared.doing.Doing.{Doing}
use Rattle.journal_data.specs.controller_model.declared.doing.Doing.TheVariants.{CentralSends, PeripheralSends}
use Rattle.journal_data.specs.controller_model.Answers.{answer_to}
use Rattle.journal_data.specs.controller_model.Commands.{events_caused, facts_commanded, facts_known, notes_before, notes_commanded, notes_known, received_after}
use Rattle.journal_data.specs.controller_model.Data.{event_completed, facts_handed, facts_offered, notes_offered, notes_pieces, offer_of, pieces_handed}
use Rattle.journal_data.specs.controller_model.Entering.{events_entering, notes_all_entering}
use Rattle.journal_data.specs.controller_model.Events.{notes_of_events, passes}
use Rattle.journal_data.specs.controller_model.Facts.{Setup, Facts}
use Rattle.journal_data.specs.controller_model.Heard.{asks_if, events_reported, facts_with_words, has_room, link_heard, link_taken, notes_taken, opens, piece_taken, scanner_after, with_scanner}
use Rattle.journal_data.specs.controller_model.Links.{ends_for, events_opened, facts_ending, note_shut, notes_ended, notes_ending, notes_leaving}
use Rattle.journal_data.specs.controller_model.Outcome.{notes_passed}
use Rattle.journal_data.specs.controller_model.Packets.{facts_doing, notes_doing, notes_sent}
use Rattle.journal_data.specs.controller_model.Radio.{fixing, outcome_begun, turn_begins}
use Rattle.journal_data.specs.controller_model.Side.{facts_after, facts_fed, facts_of, notes_after, notes_fed, notes_from, notes_of, result_of}
use Rattle.journal_data.specs.controller_model.Step.{Step, HostOctet, TurnBegins, PacketHeard, NothingHeard, TurnEnds}
use Rattle.journal_data.specs.controller_model.link_commands.LinksCommanded.{events_commanded_on}
use Rattle.journal_data.proofs.controller_model.Always.{IsInTurn, ending_is, facts_before_doing, leaving_is, opening_is, received_shut, served_is, winner_before_doing}
use Rattle.journal_data.proofs.controller_model.Asked.{both_asking, notes_at_once}
use Rattle.journal_data.proofs.controller_model.BooksAlways.{none_waits}
use Rattle.journal_data.proofs.controller_model.EndNotes.{entered_each, sent_each}
use Rattle.journal_data.proofs.controller_model.Following.{entering_is}
use Rattle.journal_data.proofs.controller_model.Handing.{handed_first}
use Rattle.journal_data.proofs.controller_model.Handles.{HaveOwnHandles, IsNew, free_is_new, own_handles}
use Rattle.journal_data.proofs.controller_model.HostWindow.{IsWithoutData, events_without}
use Rattle.journal_data.proofs.controller_model.OpenNotes.{AnyFact, any_kept}
use Rattle.journal_data.proofs.controller_model.Pasts.{facts_more}
use Rattle.journal_data.proofs.controller_model.Phases.{EachOutcome, heard_is, unheard_is}
use Rattle.journal_data.proofs.Arriving.{no_data}
use Rattle.journal_data.proofs.Openness.{all_append, is_open}
use Rattle.journal_hosts.proofs.FlowInRuns.{all_open}
use Rattle.journal_hosts.proofs.ViewCounts.{ended_notes, notes_then, pieces_noted}

-- ---- notes

abbrev pub Pieces : Type 0
Pieces = List (ℕ × Piece)

abbrev pub taken_piece : ℕ → Pdu → Pieces
taken_piece handle pdu = kept_if (is_data pdu) handle pdu

-- what a note makes of what waits
abbrev pub waits_noted : Pieces → Note → Pieces
waits_noted waiting (Took handle number llid body) = waiting ++ taken_piece handle (record { llid = llid; body = body.items })
waits_noted waiting (Up packet) = cond (is_acl_data packet.items) (drop 1 waiting) waiting
waits_noted waiting (Shut handle reason) = received_without handle waiting
waits_noted waiting note = waiting

-- one that leaves it
abbrev Leaves : Note → Type 0
Leaves (Up packet) = is_acl_data packet.items ≡ false
Leaves (Took handle number llid body) = ⊥
Leaves (Shut handle reason) = ⊥
Leaves other = ⊤

note_leaves : (waiting : Pieces) (note : Note) → Leaves note → waits_noted waiting note ≡ waiting
note_leaves waiting (Up packet) is = ap (λ (acl : Bool). cond acl (drop 1 waiting) waiting) is
note_leaves waiting (Took handle number llid body) is = absurd is
note_leaves waiting (Shut handle reason) is = absurd is
note_leaves waiting other is = refl

all_leave : (waiting : Pieces) (notes : List Note) → AllByRecursion Leaves notes → fold waits_noted waiting notes ≡ waiting
all_leave waiting [] are = refl
all_leave waiting (note ∷ notes) are =
    ap (λ (next : Pieces). fold waits_noted next notes) (note_leaves waiting note are.0) ∙ all_leave waiting notes are.1

-- these notes, and then notes that leave it
then_leave : (waiting after : Pieces) (notes more : List Note) → fold waits_noted waiting notes ≡ after → AllByRecursion Leaves more
    → fold waits_noted waiting (notes ++ more) ≡ after
then_leave waiting after notes more is leave =
    fold-append waits_noted waiting notes more ∙ ap (λ (next : Pieces). fold waits_noted next more) is ∙ all_leave after more leave

events_leave : (view : View) (events : List Event) → AllByRecursion Leaves (notes_of_events view events)
events_leave view events = by (filter (λ event. passes view (mask_bit_of event)) events) (events_without view events)
  where
    by : (passed : List Event) → AllByRecursion IsWithoutData (map (λ event. Up (record { items = written event })) passed)
        → AllByRecursion Leaves (map (λ event. Up (record { items = written event })) passed)
    by [] are = tt
    by (event ∷ passed) are = (are.0, by passed are.1)

-- ---- a packet of a link is heard

module _ (waiting : Pieces) (handle : ℕ) (pdu : Pdu) (facts : EndFacts) where
  one_taken : (takes empty carries : Bool) → is_data pdu ≡ carries → (empty ≡ true → carries ≡ false)
      → fold waits_noted waiting (took_notes_if (takes && not empty) handle pdu facts) ≡ waiting ++ kept_if (takes && carries) handle pdu
  one_taken true true true is none = absurd (let h : true ≡ false = none refl in absurd cc)
  one_taken true true false is none = sym (append-nil waiting)
  one_taken true false carries is none = ap (λ (some : Bool). waiting ++ kept_if some handle pdu) is
  one_taken false empty carries is none = sym (append-nil waiting)

-- an empty PDU has no data
pub empty_none : (pdu : Pdu) → is_empty pdu ≡ true → is_data pdu ≡ false
empty_none pdu empty = no_data pdu.llid (pdu.llid == 0) _ refl empty

done_leave : (handle : ℕ) (done : Option Kind) → AllByRecursion Leaves (done_notes handle done)
done_leave handle None = tt
done_leave handle (Some kind) = (tt, tt)

refused_leave : (handle : ℕ) (refused : Option (Kind × ErrCode)) → AllByRecursion Leaves (refused_notes handle refused)
refused_leave handle None = tt
refused_leave handle (Some (kind, code)) = (tt, tt)

given_leave : (handle : ℕ) (given : Taken) → AllByRecursion Leaves (given_notes handle given)
given_leave handle given =
    all_append Leaves (refused_notes handle given.refused) (done_notes handle given.done) (refused_leave handle given.refused) (done_leave handle given.done)

received_waits : (waiting : Pieces) (setup : EndSetup) (slot : ℕ) (room : Bool) (found : Option (List ℕ)) (facts : EndFacts)
    → fold waits_noted waiting (received_notes setup slot room found facts) ≡ waiting ++ kept_from setup slot room found facts
received_waits waiting setup slot room None facts = sym (append-nil waiting)
received_waits waiting setup slot room (Some octets) facts =
    let own = setup.link.handle in
    let header = header_in octets in
    let pdu = pdu_of octets in
    let now = facts_before_taking setup.link.role slot header facts in
    let takes = accepts room header pdu now in
    let done = done_notes own (acked_kind (acks_control (has_acknowledged facts header) facts) facts) in
    let took = took_notes_if (takes && not (is_empty pdu)) own pdu now in
    let given = given_notes own (given_if (takes && is_procedure_pdu pdu) pdu slot now) in
    let kept = given_notes own (kept_given_if (takes && is_procedure_pdu pdu) pdu slot now) in
    fold-append waits_noted waiting done (took ++ (given ++ kept))
    ∙ ap (λ (next : Pieces). fold waits_noted next (took ++ (given ++ kept))) (all_leave waiting done (done_leave own _))
    ∙ then_leave waiting (waiting ++ kept_from setup slot room (Some octets) facts) took (given ++ kept)
    (one_taken waiting own pdu now takes (is_empty pdu) (is_data pdu) refl (empty_none pdu))
    (all_append Leaves given kept (given_leave own (given_if (takes && is_procedure_pdu pdu) pdu slot now))
    (given_leave own (kept_given_if (takes && is_procedure_pdu pdu) pdu slot now)))

taken_waits : (waiting : Pieces) (slot : ℕ) (room : Bool) (place : Option OpenLink) (octets : List ℕ)
    → fold waits_noted waiting (notes_taken slot room place octets) ≡ waiting ++ piece_taken slot room place octets
taken_waits waiting slot room None octets = sym (append-nil waiting)
taken_waits waiting slot room (Some link) octets =
    received_waits waiting link.setup slot room (good_pdu link.setup (facts_in link) octets) (facts_in link)

sent_leave : (slot : ℕ) (place : Option OpenLink) → AllByRecursion Leaves (notes_sent slot place)
sent_leave slot None = tt
sent_leave slot (Some link) = sent_each Leaves link.setup (facts_in link) (λ number llid octets. tt)

doing_leave : (doing : Doing) (facts : Facts) → AllByRecursion Leaves (notes_doing doing facts)
doing_leave (CentralSends handle) facts = sent_leave facts.turn.slot (link_at handle facts.links)
doing_leave (PeripheralSends handle) facts = sent_leave facts.turn.slot (link_at handle facts.links)
doing_leave other facts = tt

-- ---- a phase

-- what waits then is what the notes make of what waited
abbrev Follow : Facts → Facts → List Note → Type 0
Follow before after notes = fold waits_noted before.received notes ≡ after.received

none_past : (place : Option OpenLink) (handle : ℕ) (received : Pieces) → place ≡ None → received_past place handle received ≡ received
none_past None handle received is = refl
none_past (Some link) handle received is = absurd cc

opened_follow : (link : LinkSetup) (facts : Facts) → link_at link.handle facts.links ≡ None → Follow facts (opens link facts).facts (notes_passed (opens link facts))
opened_follow link facts free =
    let events = notes_of_events facts.view (events_opened facts.view link) in
    all_leave facts.received (events ++ []) (all_append Leaves events [] (events_leave facts.view (events_opened facts.view link)) tt)
    ∙ sym (none_past (link_at link.handle facts.links) link.handle facts.received free)
    ∙ ap (λ (after : Facts). after.received) (sym (opening_is link facts))

heard_follow : (setup : Setup) (handle : ℕ) (octets : List ℕ) (facts : Facts)
    → Follow facts (link_heard setup handle octets facts).facts (notes_passed (link_heard setup handle octets facts))
heard_follow setup handle octets facts =
    let heard = link_heard setup handle octets facts in
    let slot = facts.turn.slot in
    let room = has_room setup facts in
    let place = link_at handle facts.links in
    let after = facts.received ++ piece_taken slot room place octets in
    then_leave facts.received after heard.notes (notes_doing heard.next heard.facts)
    (then_leave facts.received after (notes_taken slot room place octets) (notes_of_events facts.view _)
    (taken_waits facts.received slot room place octets) (events_leave facts.view _))
    (doing_leave heard.next heard.facts)

phase_follow : (setup : Setup) (facts : Facts) → HaveOwnHandles setup facts → EachOutcome setup facts (λ outcome. Follow facts outcome.facts (notes_passed outcome))
phase_follow setup facts own = record {
  rests = refl;
  awaits_request = λ channel doing. refl;
  awaits_response = λ channel advertiser doing. refl;
  central_listens = λ handle doing. refl;
  sent = λ channel link doing. opened_follow link facts (subst (IsNew facts.links) doing own.new).1;
  responds = λ channel advertiser doing is_on. refl;
  taken = λ channel octets pdu advertiser fields handle is_on hears takes free.
      opened_follow (link_taken facts.view advertiser.params.own pdu fields handle) facts (free_is_new facts.links handle free).1;
  scanned = λ channel octets pdu scanner doing is_on hears.
      let answer = scan_answer scanner.params facts.view.accepted scanner.recent pdu in
      let events = events_reported answer pdu in
      let after = with_scanner (scanner_after scanner facts.view.accepted pdu) facts in
      let next = asks_if (true && does_ask answer) channel pdu in
      all_leave facts.received (notes_of_events facts.view events ++ notes_doing next after)
      (all_append Leaves (notes_of_events facts.view events) (notes_doing next after) (events_leave facts.view events) (doing_leave next after));
  answered = λ channel octets pdu scanner doing is_on hears.
      let answer = scan_answer scanner.params facts.view.accepted scanner.recent pdu in
      let events = events_reported answer pdu in
      let after = with_scanner (scanner_after scanner facts.view.accepted pdu) facts in
      let next = asks_if (false && does_ask answer) channel pdu in
      all_leave facts.received (notes_of_events facts.view events ++ notes_doing next after)
      (all_append Leaves (notes_of_events facts.view events) (notes_doing next after) (events_leave facts.view events) (doing_leave next after));
  connects = λ channel octets pdu initiator access handle doing is_on hears answers next free in_range. refl;
  received = λ handle octets. heard_follow setup handle octets facts;
}

-- ---- links end

ends_waits : (view : View) (waiting : Pieces) (ended : List LinkEnded) → fold waits_noted waiting (flat_map (notes_ended view) ended) ≡ received_shut waiting ended
ends_waits view waiting [] = refl
ends_waits view waiting (one ∷ ended) =
    fold-append waits_noted waiting (notes_ended view one) (flat_map (notes_ended view) ended)
    ∙ ap (λ (next : Pieces). fold waits_noted next (flat_map (notes_ended view) ended))
    (all_leave (received_without one.handle waiting) _ (events_leave view (DisconnectionComplete 0 one.handle one.reason.0 ∷ [])))
    ∙ ends_waits view (received_without one.handle waiting) ended

-- ---- a turn begins

entering_leave : (slot : ℕ) (place : Option OpenLink) → AllByRecursion Leaves (notes_entering slot place)
entering_leave slot None = tt
entering_leave slot (Some link) = by (enters_in slot link)
  where
    by : (enters : Bool) → AllByRecursion Leaves (notes_if enters slot link)
    by true =
        entered_each Leaves link.setup slot (facts_in link)
        (record { applied = λ number. tt; enter = tt; done = λ kind. tt; began = λ kind. tt })
    by false = tt

all_entering_leave : (view : View) (slot handle : ℕ) (links : Links) → AllByRecursion Leaves (notes_all_entering view slot handle links)
all_entering_leave view slot handle [] = tt
all_entering_leave view slot handle (place ∷ links) =
    let events = events_entering slot handle place in
    all_append Leaves (notes_entering slot place ++ notes_of_events view events) (notes_all_entering view slot (handle + 1) links)
    (all_append Leaves (notes_entering slot place) (notes_of_events view events) (entering_leave slot place) (events_leave view events))
    (all_entering_leave view slot (handle + 1) links)

begun_received : (setup : Setup) (slot : ℕ) (on : Bool) (facts : Facts)
    → (facts_after setup facts (TurnBegins slot on)).received ≡ received_shut facts.received (ends_for (due_in slot) facts)
begun_received setup slot on facts =
    served_is Left (λ at activity one is. is) (λ outcome. Left (facts_doing (fixing outcome).next (fixing outcome).facts)) (λ doing one may is. is) on slot
    (winner_before_doing slot facts) (facts_before_doing slot facts)
    (subst Left (sym (entering_is slot (turn_begins slot (facts_ending slot facts)))) (subst Left (sym (ending_is slot facts)) refl))
  where
    Left : Facts → Type 0
    Left one = one.received ≡ received_shut facts.received (ends_for (due_in slot) facts)

begun_follow : (setup : Setup) (slot : ℕ) (on : Bool) (facts : Facts)
    → Follow facts (facts_after setup facts (TurnBegins slot on)) (notes_after setup facts (TurnBegins slot on))
begun_follow setup slot on facts =
    let ended = received_shut facts.received (ends_for (due_in slot) facts) in
    let ending = notes_ending slot facts in
    let entering = notes_all_entering (facts_ending slot facts).view slot 0 (facts_ending slot facts).links in
    let outcome = outcome_begun slot on facts in
    then_leave facts.received ended (ending ++ entering) (notes_doing outcome.next outcome.facts)
    (then_leave facts.received ended ending entering (ends_waits facts.view facts.received (ends_for (due_in slot) facts))
    (all_entering_leave (facts_ending slot facts).view slot 0 (facts_ending slot facts).links))
    (doing_leave outcome.next outcome.facts)
    ∙ sym (begun_received setup slot on facts)

-- ---- a turn ends

pub handed_waits : (first left : Pieces) → fold waits_noted (first ++ left) (pieces_noted first) ≡ left
handed_waits [] left = refl
handed_waits (piece ∷ first) left = handed_waits first left

ended_follow : (setup : Setup) (facts : Facts) → Follow facts (facts_after setup facts TurnEnds) (notes_after setup facts TurnEnds)
ended_follow setup facts =
    let left = left_of facts.view facts.received in
    let events = map event_completed (completed_from 0 facts.links) in
    let ended = ends_for ending_in (facts_handed facts) in
    ap (fold waits_noted facts.received) (ended_notes setup facts)
    ∙ fold-append waits_noted facts.received (notes_pieces facts) (notes_then facts)
    ∙ ap (λ (next : Pieces). fold waits_noted next (notes_then facts))
    (ap (λ (all : Pieces). fold waits_noted all (notes_pieces facts)) (sym (handed_first facts.view facts.received)) ∙ handed_waits (pieces_handed facts) left)
    ∙ fold-append waits_noted left (notes_of_events facts.view events) (notes_leaving (facts_handed facts))
    ∙ ap (λ (next : Pieces). fold waits_noted next (notes_leaving (facts_handed facts))) (all_leave left (notes_of_events facts.view events) (events_leave facts.view events))
    ∙ ends_waits (facts_handed facts).view left ended
    ∙ sym (ap (λ (after : Facts). after.received) (leaving_is (facts_handed facts)))

-- ---- any call of a turn

pub turn_follows : (setup : Setup) (facts : Facts) (step : Step) → IsInTurn step → HaveOwnHandles setup facts
    → Follow facts (facts_after setup facts step) (notes_after setup facts step)
turn_follows setup facts (HostOctet octet) turn own = absurd turn
turn_follows setup facts (TurnBegins slot on) turn own = begun_follow setup slot on facts
turn_follows setup facts (PacketHeard octets) turn own =
    heard_is setup facts (λ outcome. Follow facts outcome.facts (notes_passed outcome)) (phase_follow setup facts own) facts.turn.doing octets refl
    (λ handle. heard_follow setup handle octets (facts_with_words setup handle facts))
turn_follows setup facts NothingHeard turn own =
    unheard_is setup facts (λ outcome. Follow facts outcome.facts (notes_passed outcome)) (phase_follow setup facts own) facts.turn.doing refl
turn_follows setup facts TurnEnds turn own = ended_follow setup facts

-- ---- an octet of the host

-- all that waits is of open links
abbrev pub AreOpen : Facts → Type 0
AreOpen facts = AllByRecursion (λ (piece : ℕ × Piece). is_open facts.links piece.0 ≡ true) facts.received

abbrev is_among : List ℕ → ℕ → Bool
is_among handles handle = list_any (λ (one : ℕ). handle == one) handles

or_true : (first : Bool) → (first || true) ≡ true
or_true true = refl
or_true false = refl

open_among : (first handle : ℕ) (links : Links) → is_some (link_from first handle links) ≡ true → is_among (handles_from first links) handle ≡ true
open_among first handle [] is = absurd cc
open_among first handle (None ∷ links) is = by (first == handle) is (open_among (first + 1) handle links)
  where
    by : (own : Bool) → is_some (cond own None (link_from (first + 1) handle links)) ≡ true
        → (is_some (link_from (first + 1) handle links) ≡ true → is_among (handles_from (first + 1) links) handle ≡ true)
        → is_among (handles_from (first + 1) links) handle ≡ true
    by true is later = absurd cc
    by false is later = later is
open_among first handle (Some link ∷ links) is = by (first == handle) refl is (open_among (first + 1) handle links)
  where
    by : (own : Bool) → (first == handle) ≡ own → is_some (cond own (Some link) (link_from (first + 1) handle links)) ≡ true
        → (is_some (link_from (first + 1) handle links) ≡ true → is_among (handles_from (first + 1) links) handle ≡ true)
        → ((handle == first) || is_among (handles_from (first + 1) links) handle) ≡ true
    by true same is later = ap (λ (own : Bool). own || is_among (handles_from (first + 1) links) handle) (eq-eqb handle first (sym (eqb-true first handle same)))
    by false same is later = ap (λ (rest : Bool). (handle == first) || rest) (later is) ∙ or_true (handle == first)

-- a Reset shuts them all
all_gone : (handles : List ℕ) (waiting : Pieces) → AllByRecursion (λ (piece : ℕ × Piece). is_among handles piece.0 ≡ true) waiting
    → fold waits_noted waiting (map (λ handle. note_shut handle 0) handles) ≡ []
all_gone [] [] are = refl
all_gone [] (piece ∷ waiting) are = absurd (let h : false ≡ true = are.0 in absurd cc)
all_gone (handle ∷ handles) waiting are = all_gone handles (received_without handle waiting) (others waiting are)
  where
    others : (some : Pieces) → AllByRecursion (λ (piece : ℕ × Piece). is_among (handle ∷ handles) piece.0 ≡ true) some
        → AllByRecursion (λ (piece : ℕ × Piece). is_among handles piece.0 ≡ true) (received_without handle some)
    others [] all = tt
    others (piece ∷ some) all = by (piece.0 == handle) all.0 (others some all.1)
      where
        by : (own : Bool) → (own || is_among handles piece.0) ≡ true
            → AllByRecursion (λ (piece : ℕ × Piece). is_among handles piece.0 ≡ true) (received_without handle some)
            → AllByRecursion (λ (piece : ℕ × Piece). is_among handles piece.0 ≡ true) (cond (not own) (piece ∷ received_without handle some) (received_without handle some))
        by true is rest = rest
        by false is rest = (is, rest)

all_among : (links : Links) (waiting : Pieces) → AllByRecursion (λ (piece : ℕ × Piece). is_open links piece.0 ≡ true) waiting
    → AllByRecursion (λ (piece : ℕ × Piece). is_among (handles_from 0 links) piece.0 ≡ true) waiting
all_among links [] are = tt
all_among links (piece ∷ waiting) are = (open_among 0 piece.0 links are.0, all_among links waiting are.1)

before_waits : (facts : Facts) (command : Command) → AreOpen facts → fold waits_noted facts.received (notes_before facts command) ≡ received_after command facts.received
before_waits facts Reset opened = all_gone (handles_from 0 facts.links) facts.received (all_among facts.links facts.received opened)
before_waits facts other opened = refl

accepted_follow : (setup : Setup) (facts : Facts) (opcode : ℕ) (command : Command) → AreOpen facts
    → fold waits_noted facts.received (notes_known true setup facts opcode command) ≡ received_after command facts.received
accepted_follow setup facts opcode command opened =
    let after = received_after command facts.received in
    let answer = answer_to setup facts opcode (Known command) in
    then_leave facts.received after (notes_before facts command ++ notes_of_events facts.view answer) (notes_of_events facts.view (events_caused facts command))
    (then_leave facts.received after (notes_before facts command) (notes_of_events facts.view answer) (before_waits facts command opened) (events_leave facts.view answer))
    (events_leave facts.view (events_caused facts command))

known_follow : (accepted : Bool) (setup : Setup) (facts : Facts) (opcode : ℕ) (command : Command) → AreOpen facts
    → Follow facts (facts_known accepted setup facts command) (notes_known accepted setup facts opcode command)
known_follow false setup facts opcode command opened =
    let answer = answer_to setup facts opcode (Known command) in
    all_leave facts.received (notes_of_events facts.view answer) (events_leave facts.view answer)
known_follow true setup facts opcode command opened = accepted_follow setup facts opcode command opened

commanded_follow : (setup : Setup) (facts : Facts) (opcode : ℕ) (read : CmdRead) → AreOpen facts
    → Follow facts (facts_commanded setup facts read) (notes_commanded setup facts opcode read)
commanded_follow setup facts opcode (Known command) opened =
    both_asking setup facts command opcode (λ (after : Facts) (notes : List Note). Follow facts after notes)
    (known_follow (status_of facts.view command == 0) setup facts opcode command opened)
    (λ asks. then_leave facts.received (received_after command facts.received) (notes_known true setup facts opcode command) (notes_at_once facts command)
    (accepted_follow setup facts opcode command opened) (events_leave facts.view (events_commanded_on command facts.links)))
commanded_follow setup facts opcode UnknownOpcode opened =
    let answer = answer_to setup facts opcode UnknownOpcode in
    all_leave facts.received (notes_of_events facts.view answer) (events_leave facts.view answer)
commanded_follow setup facts opcode BadLength opened =
    let answer = answer_to setup facts opcode BadLength in
    all_leave facts.received (notes_of_events facts.view answer) (events_leave facts.view answer)

offered_follow : (offer : Offer) (facts : Facts) (handle : ℕ) (start : Bool) (body : List ℕ)
    → Follow facts (facts_offered offer handle start body facts) (notes_offered facts.view offer handle)
offered_follow NoLink facts handle start body = refl
offered_follow Empty facts handle start body = all_leave facts.received (notes_of_events facts.view (CompletedPackets handle 1 ∷ [])) (events_leave facts.view (CompletedPackets handle 1 ∷ []))
offered_follow Overflow facts handle start body = all_leave facts.received (notes_of_events facts.view (BufferOverflow 1 ∷ [])) (events_leave facts.view (BufferOverflow 1 ∷ []))
offered_follow Kept facts handle start body = refl

fed_follow : (setup : Setup) (facts : Facts) (fed : Fed) → AreOpen facts → Follow facts (facts_fed setup facts fed) (notes_fed setup facts fed)
fed_follow setup facts (Packet (HostCommand opcode body)) opened = commanded_follow setup facts opcode (command_of opcode body.items) opened
fed_follow setup facts (Packet (Acl handle start count body)) opened = offered_follow (offer_of setup facts handle count) facts handle start body.items
fed_follow setup facts LostSync opened = all_leave facts.received (notes_of_events facts.view (HardwareError 0x01 ∷ [])) (events_leave facts.view (HardwareError 0x01 ∷ []))
fed_follow setup facts More opened = refl

-- ---- any step, and all

step_follows : (setup : Setup) (facts : Facts) (step : Step) → HaveOwnHandles setup facts → AreOpen facts
    → Follow facts (facts_after setup facts step) (notes_after setup facts step)
step_follows setup facts (HostOctet octet) own opened = fed_follow setup facts (result_of facts.octets octet) opened
step_follows setup facts (TurnBegins slot on) own opened = turn_follows setup facts (TurnBegins slot on) tt own
step_follows setup facts (PacketHeard octets) own opened = turn_follows setup facts (PacketHeard octets) tt own
step_follows setup facts NothingHeard own opened = turn_follows setup facts NothingHeard tt own
step_follows setup facts TurnEnds own opened = turn_follows setup facts TurnEnds tt own

pieces_open : (setup : Setup) (past : List Step) → AreOpen (facts_of setup past)
pieces_open setup past =
    all_open (facts_of setup past).links (facts_of setup past).received (λ handle closed. none_waits handle AnyFact setup (any_kept setup.links handle) past closed)

follows_from : (setup : Setup) (steps past : List Step)
    → fold waits_noted (facts_of setup past).received (notes_from setup (facts_of setup past) steps) ≡ (facts_of setup (past ++ steps)).received
follows_from setup [] past = ap (λ (all : List Step). (facts_of setup all).received) (sym (append-nil past))
follows_from setup (step ∷ steps) past =
    let facts = facts_of setup past in
    let next = facts_after setup facts step in
    let notes = notes_after setup facts step in
    fold-append waits_noted facts.received notes (notes_from setup next steps)
    ∙ ap (λ (waiting : Pieces). fold waits_noted waiting (notes_from setup next steps)) (step_follows setup facts step (own_handles setup past) (pieces_open setup past))
    ∙ ap (λ (after : Facts). fold waits_noted after.received (notes_from setup after steps)) (sym (facts_more setup past step))
    ∙ follows_from setup steps (past ++ step ∷ [])
    ∙ ap (λ (all : List Step). (facts_of setup all).received) (append_assoc past (step ∷ []) steps)

-- what waits is what the notes make of nothing
pub pieces_noted_are : (setup : Setup) (past : List Step) → fold waits_noted [] (notes_of setup past) ≡ (facts_of setup past).received
unfolding facts_of notes_of
pieces_noted_are setup past = follows_from setup past []
