-- Which notes of a step say that a link is opened or shut under a handle, and which other notes come in that step.
use Rattle.std.proofs.Common.{◌≡◌, ℕ, ◌+◌, ◌<◌, ◌==◌, Bool, true, false, Option, Some, None, List, [], ◌∷◌, ◌++◌, ◌⊎◌, inl, inr, length, map, cond, refl, ap, sym, subst, ◌∙◌, arith}
use Rattle.std.specs.Prelude.{◌||◌, filter, flat_map, fold, is_some, ⊤, if◌then◌else◌}
use Rattle.std.specs.List.{AllByRecursion}
use Rattle.std.proofs.lemmas.Bool.{eqb-false, eqb-true, false_from_ne_true}
use Rattle.std.proofs.lemmas.List.Sums.{fold-append}
use Rattle.acl_banks.specs.declared.pieces.Piece.{Piece}
use Rattle.ble_base.specs.declared.addresses.Address.{Address}
use Rattle.ble_base.specs.declared.roles.Role.{Role}
use Rattle.ble_base.specs.declared.notes.Note.{Note}
use Rattle.ble_base.specs.declared.notes.Note.TheVariants.{Up, Opened, Shut}
use Rattle.h4_frames.specs.declared.packet.HostPacket.TheVariants.{Command as HostCommand, Acl}
use Rattle.h4_frames.specs.declared.packet.Fed.{Fed}
use Rattle.h4_frames.specs.declared.packet.Fed.TheVariants.{More, Packet, LostSync}
use Rattle.hci_cmd.specs.declared.command.Command.{Command}
use Rattle.hci_cmd.specs.declared.command.Command.TheVariants.{LeCreateCancel, Reset}
use Rattle.hci_cmd.specs.declared.command.CmdRead.{CmdRead}
use Rattle.hci_cmd.specs.declared.command.CmdRead.TheVariants.{Known, UnknownOpcode, BadLength}
use Rattle.hci_cmd.specs.Command.{command_of}
use Rattle.hci_evt.specs.Event.{mask_bit_of, written}
use Rattle.hci_evt.specs.declared.event.Event.{Event}
use Rattle.hci_evt.specs.declared.event.Event.TheVariants.{CommandComplete, CommandStatus, CompletedPackets, BufferOverflow, DisconnectionComplete, HardwareError}
use Rattle.wire_fields.specs.Field.{little_endian}
use Rattle.host_view.specs.Links.{was_encrypted}
use Rattle.host_view.specs.Noted.{is_acl_data}
use Rattle.host_view.specs.View.{View}
use Rattle.host_view.specs.Status.{status_of}
use Rattle.adv_pdu.specs.declared.pdu.AdvPdu.{AdvPdu}
use Rattle.journal_acks.specs.link_model.declared.setup.LinkSetup.{LinkSetup}
use Rattle.journal_acks.specs.link_model.Packets.{good_pdu}
use Rattle.journal_acks.specs.link_model.Setup.{Setup as EndSetup}
use Rattle.journal_acks.specs.link_model.Step.{DataGiven, WordsGiven}
use Rattle.scan_init.specs.declared.reports.ReportKind.{ReportKind}
use Rattle.scan_init.specs.declared.scanner.ScanAnswer.{ScanAnswer}
use Rattle.scan_init.specs.Reports.{kind_of, scan_answer}
use Rattle.journal_acks.specs.open_links.declared.ended.LinkEnded.{LinkEnded}
use Rattle.journal_acks.specs.open_links.declared.offers.Offer.{Offer}
use Rattle.journal_acks.specs.open_links.declared.offers.Offer.TheVariants.{NoLink, Empty, Overflow, Kept}
use Rattle.journal_acks.specs.open_links.Data.{completed_from, link_reported, links_reported}
use Rattle.journal_acks.specs.open_links.OpenLinks.{Links, OpenLink, facts_in, handles_from, link_after, link_at, link_from, new_link, without_links}
use Rattle.journal_acks.specs.open_links.Ended.{end_by}
use Rattle.journal_acks.specs.open_links.Turns.{due_in, ends_by, enters_in, link_entered, links_without, notes_entering, notes_if, place_without, staying_by, ending_in}
use Rattle.journal_acks.proofs.open_links.Ends.{stays_where_not_due}
use Rattle.journal_acks.specs.controller_model.declared.doing.Doing.{Doing}
use Rattle.journal_acks.specs.controller_model.declared.doing.Doing.TheVariants.{Advertises, CentralSends, PeripheralSends}
use Rattle.journal_acks.specs.controller_model.Step.{Step, HostOctet, TurnBegins, PacketHeard, NothingHeard, TurnEnds}
use Rattle.journal_acks.specs.controller_model.Facts.{Setup, Facts}
use Rattle.journal_acks.specs.controller_model.Answers.{AreOneAnswer, HasNoAnswer, IsAnswerTo, answer_to}
use Rattle.journal_acks.specs.controller_model.Commands.{events_caused, facts_commanded, facts_known, is_asking, links_after, moment_of, notes_before, notes_commanded, notes_known}
use Rattle.journal_acks.specs.controller_model.Data.{event_completed, facts_offered, note_received, notes_offered, offer_of, facts_handed, notes_handed, notes_pieces, pieces_handed}
use Rattle.journal_acks.specs.controller_model.Events.{notes_of_events, passes}
use Rattle.journal_acks.specs.controller_model.Heard.{events_received, events_reported, facts_with_words, has_room, link_heard, link_taken, notes_taken, opens as opening, report_event, report_events, scanner_heard}
use Rattle.journal_acks.specs.controller_model.Links.{connection_complete, connection_failed, ends_for, events_opened, facts_ending, note_shut, notes_ended}
use Rattle.journal_acks.specs.controller_model.Links.{notes_ending, wants_enhanced, notes_leaving}
use Rattle.journal_acks.specs.controller_model.Notes.{is_event, is_opening}
use Rattle.journal_acks.specs.controller_model.Outcome.{Outcome, facts_passed, notes_passed}
use Rattle.journal_acks.specs.controller_model.Packets.{notes_doing, notes_sent}
use Rattle.journal_acks.specs.controller_model.Radio.{fixing, outcome_begun}
use Rattle.journal_acks.specs.controller_model.Side.{facts_after, facts_fed, facts_of, notes_after, notes_fed, result_of}
use Rattle.journal_acks.proofs.controller_model.Always.{IsInTurn, ending_is, facts_before_doing, opening_is, served_is, winner_before_doing, leaving_is}
use Rattle.journal_acks.proofs.controller_model.AnsweredOnce.{answered_once}
use Rattle.journal_acks.proofs.controller_model.Handles.{HaveOwnHandles, IsNew, free_is_new, own_handles}
use Rattle.journal_acks.proofs.controller_model.OpenPlaces.{changed_opens, fixed_opens, mapped_opens, opens, sent_opens, won_opens, received_opens}
use Rattle.journal_acks.proofs.controller_model.Phases.{EachOutcome, heard_is, unheard_is}
use Rattle.journal_acks.proofs.link_calls.UnderHandles.{map_under}
use Rattle.journal_acks.proofs.open_links.Handles.{opened_at, other_stays}
use Rattle.journal_acks.proofs.run_model.OpenedNotes.{is_opened, opened_was_free}
use Rattle.journal_acks.proofs.link_calls.CallNotes.{is_taking}
use Rattle.journal_acks.proofs.controller_model.EndNotes.{sent_each, received_each, entered_each}
use Rattle.journal_acks.proofs.controller_model.ProcedureEvents.{AreOfProcedures, IsOfProcedure, entering_events, reception_events}
use Rattle.journal_acks.specs.controller_model.Entering.{events_entering, notes_all_entering}
use Rattle.journal_acks.specs.controller_model.link_commands.LinksCommanded.{events_commanded_on, links_commanded}
use Rattle.journal_acks.proofs.controller_model.Asked.{asked_same, asking_shuts_none, both_asking, events_at_once_are, notes_at_once}

-- ---- what a note says

-- whether a link is open under a handle after a note
abbrev pub note_open : ℕ → Bool → Note → Bool
note_open handle linked (Opened other role own peer) = if other == handle then true else linked
note_open handle linked (Shut other reason) = if other == handle then false else linked
note_open handle linked note = linked

abbrev pub is_shutting : Note → Bool
is_shutting (Shut handle reason) = true
is_shutting note = false

-- data for the host, or Number Of Completed Packets
abbrev pub is_report : Note → Bool
is_report (Up packet) = is_acl_data packet.items || is_event 0x13 packet.items
is_report note = false

-- none of these notes is of this kind
abbrev pub AreNot : (Note → Bool) → List Note → Type 0
AreNot kind notes = AllByRecursion (λ note. kind note ≡ false) notes

-- a note that shuts the link under a handle
abbrev pub is_shut_of : ℕ → Note → Bool
is_shut_of handle (Shut other reason) = other == handle
is_shut_of handle note = false

-- that link is shut at most once
abbrev pub IsShutOnce : ℕ → List Note → Type 0
IsShutOnce handle [] = ⊤
IsShutOnce handle (note ∷ notes) = (is_shut_of handle note ≡ true → AreNot (is_shut_of handle) notes) × IsShutOnce handle notes

-- what the notes of a step say of the handles with open links before the step, and after it
pub data IsNotedAs (before after : ℕ → Bool) (notes : List Note) : Type 0 where
  -- none is opened or shut
  stays : AreNot is_opening notes → AreNot is_shutting notes → ((handle : ℕ) → after handle ≡ before handle) → IsNotedAs before after notes
  -- none is opened, and none is shut twice
  shuts : AreNot is_opening notes → ((handle : ℕ) → fold (note_open handle) (before handle) notes ≡ after handle)
      → ((handle : ℕ) → IsShutOnce handle notes) → IsNotedAs before after notes
  -- one is opened first, under a free handle, and then none is opened or shut, and nothing is reported
  opens_first : (handle : ℕ) (role : Role) (own peer : Address) (rest : List Note) → notes ≡ Opened handle role own peer ∷ rest
      → AreNot is_opening rest → AreNot is_shutting rest → AreNot is_report rest → before handle ≡ false → after handle ≡ true
      → ((other : ℕ) → (handle == other) ≡ false → after other ≡ before other) → IsNotedAs before after notes

-- ---- notes that open and shut none

pub open_still : (handle : ℕ) (linked : Bool) (notes : List Note) → AreNot is_opening notes → AreNot is_shutting notes
    → fold (note_open handle) linked notes ≡ linked
open_still handle linked [] none shut = refl
open_still handle linked (Opened other role own peer ∷ notes) none shut = absurd (let h : true ≡ false = none.0 in absurd cc)
open_still handle linked (Shut other reason ∷ notes) none shut = absurd (let h : true ≡ false = shut.0 in absurd cc)
open_still handle linked (note ∷ notes) none shut = open_still handle linked notes none.1 shut.1

-- a note that opens and shuts none, and reports nothing
pub record IsQuiet (note : Note) : Type 0 where
  pub no_opening : is_opening note ≡ false
  pub no_shutting : is_shutting note ≡ false
  pub no_report : is_report note ≡ false

abbrev pub AreQuiet : List Note → Type 0
AreQuiet notes = AllByRecursion IsQuiet notes

pub all_of : (P Q : Note → Type 0) → ((note : Note) → P note → Q note) → (notes : List Note) → AllByRecursion P notes → AllByRecursion Q notes
all_of P Q to [] all = tt
all_of P Q to (note ∷ notes) all = (to note all.0, all_of P Q to notes all.1)

pub none_open : (notes : List Note) → AreQuiet notes → AreNot is_opening notes
none_open notes quiet = all_of IsQuiet _ (λ note is. is.no_opening) notes quiet

none_shut : (notes : List Note) → AreQuiet notes → AreNot is_shutting notes
none_shut notes quiet = all_of IsQuiet _ (λ note is. is.no_shutting) notes quiet

none_report : (notes : List Note) → AreQuiet notes → AreNot is_report notes
none_report notes quiet = all_of IsQuiet _ (λ note is. is.no_report) notes quiet

pub all_append : (P : Note → Type 0) (xs ys : List Note) → AllByRecursion P xs → AllByRecursion P ys → AllByRecursion P (xs ++ ys)
all_append P [] ys all more = more
all_append P (x ∷ xs) ys all more = (all.0, all_append P xs ys all.1 more)

pub both_quiet : (xs ys : List Note) → AreQuiet xs → AreQuiet ys → AreQuiet (xs ++ ys)
both_quiet xs ys all more = all_append IsQuiet xs ys all more

both_not : (kind : Note → Bool) (xs ys : List Note) → AreNot kind xs → AreNot kind ys → AreNot kind (xs ++ ys)
both_not kind xs ys all more = all_append (λ note. kind note ≡ false) xs ys all more

quiet_fold : (handle : ℕ) (linked : Bool) (notes : List Note) → AreQuiet notes → fold (note_open handle) linked notes ≡ linked
quiet_fold handle linked notes quiet = open_still handle linked notes (none_open notes quiet) (none_shut notes quiet)

stays_quiet : (before after : ℕ → Bool) (notes : List Note) → AreQuiet notes → ((handle : ℕ) → after handle ≡ before handle) → IsNotedAs before after notes
stays_quiet before after notes quiet is = stays (none_open notes quiet) (none_shut notes quiet) is

-- ---- links that are shut once

not_before : (handle first : ℕ) → handle < first → (first == handle) ≡ false
not_before handle first before = grind (arith, before)

shut_none : (handle : ℕ) (note : Note) → is_shutting note ≡ false → is_shut_of handle note ≡ false
shut_none handle (Shut other reason) none = absurd (let h : true ≡ false = none in absurd cc)
shut_none handle (Up packet) none = refl
shut_none handle note none = refl

none_of : (handle : ℕ) (notes : List Note) → AreNot is_shutting notes → AreNot (is_shut_of handle) notes
none_of handle notes none = all_of (λ note. is_shutting note ≡ false) (λ note. is_shut_of handle note ≡ false) (shut_none handle) notes none

once_none : (handle : ℕ) (notes : List Note) → AreNot is_shutting notes → IsShutOnce handle notes
once_none handle [] none = tt
once_none handle (note ∷ notes) none = ((λ is. none_of handle notes none.1), once_none handle notes none.1)

once_more : (handle : ℕ) (xs ys : List Note) → IsShutOnce handle xs → AreNot is_shutting ys → IsShutOnce handle (xs ++ ys)
once_more handle [] ys once none = once_none handle ys none
once_more handle (x ∷ xs) ys once none =
    ((λ is. both_not (is_shut_of handle) xs ys (once.0 is) (none_of handle ys none)), once_more handle xs ys once.1 none)

once_before : (handle : ℕ) (xs ys : List Note) → AreNot (is_shut_of handle) xs → IsShutOnce handle ys → IsShutOnce handle (xs ++ ys)
once_before handle [] ys none once = once
once_before handle (x ∷ xs) ys none once =
    ((λ is. absurd (let h : true ≡ false = sym is ∙ none.0 in absurd cc)), once_before handle xs ys none.1 once)

-- ---- events

abbrev pub IsOtherEvent : Event → Type 0
IsOtherEvent (CompletedPackets handle count) = ⊥
IsOtherEvent event = ⊤

event_quiet : (event : Event) → IsOtherEvent event → IsQuiet (Up (record { items = written event }))
unfolding little_endian
event_quiet (CompletedPackets handle count) is = absurd is
event_quiet event is = record { no_opening = refl; no_shutting = refl; no_report = refl }

quiet_if : (passed : Bool) (event : Event) (events : List Event) → IsOtherEvent event
    → AreQuiet (map (λ event. Up (record { items = written event })) events)
    → AreQuiet (map (λ event. Up (record { items = written event })) (cond passed (event ∷ events) events))
quiet_if true event events is rest = (event_quiet event is, rest)
quiet_if false event events is rest = rest

events_quiet : (view : View) (events : List Event) → AllByRecursion IsOtherEvent events → AreQuiet (notes_of_events view events)
events_quiet view [] are = tt
events_quiet view (event ∷ events) are =
    quiet_if (passes view (mask_bit_of event)) event (filter (λ event. passes view (mask_bit_of event)) events) are.0 (events_quiet view events are.1)

-- those that control procedures cause
procedure_other : (event : Event) → IsOfProcedure event → IsOtherEvent event
procedure_other (CompletedPackets handle count) is = absurd is
procedure_other event is = tt

pub procedures_other : (events : List Event) → AreOfProcedures events → AllByRecursion IsOtherEvent events
procedures_other [] are = tt
procedures_other (event ∷ events) are = (procedure_other event are.0, procedures_other events are.1)

packets_not : (kind : Note → Bool) → ((octets : List ℕ) → kind (Up (record { items = octets })) ≡ false) → (events : List Event)
    → AreNot kind (map (λ event. Up (record { items = written event })) events)
packets_not kind up [] = tt
packets_not kind up (event ∷ events) = (up (written event), packets_not kind up events)

events_not : (kind : Note → Bool) → ((octets : List ℕ) → kind (Up (record { items = octets })) ≡ false) → (view : View) (events : List Event)
    → AreNot kind (notes_of_events view events)
events_not kind up view events = packets_not kind up (filter (λ event. passes view (mask_bit_of event)) events)

-- ---- data

sent_quiet : (slot : ℕ) (found : Option OpenLink) → AreQuiet (notes_sent slot found)
sent_quiet slot None = tt
sent_quiet slot (Some link) =
    sent_each IsQuiet link.setup (facts_in link) (λ number llid octets. record { no_opening = refl; no_shutting = refl; no_report = refl })

pub doing_quiet : (doing : Doing) (facts : Facts) → AreQuiet (notes_doing doing facts)
doing_quiet (CentralSends handle) facts = sent_quiet facts.turn.slot (link_at handle facts.links)
doing_quiet (PeripheralSends handle) facts = sent_quiet facts.turn.slot (link_at handle facts.links)
doing_quiet (Advertises channel) facts = tt
doing_quiet other facts = tt

took_quiet : (slot : ℕ) (room : Bool) (found : Option OpenLink) (octets : List ℕ) → AreQuiet (notes_taken slot room found octets)
took_quiet slot room None octets = tt
took_quiet slot room (Some link) octets =
    received_each IsQuiet link.setup slot room (good_pdu link.setup (facts_in link) octets) (facts_in link) (record {
      took = λ number llid octets. record { no_opening = refl; no_shutting = refl; no_report = refl };
      refused = λ kind code. record { no_opening = refl; no_shutting = refl; no_report = refl };
      done = λ kind. record { no_opening = refl; no_shutting = refl; no_report = refl };
    })

-- all that is noted as a link receives
pub heard_quiet : (handle : ℕ) (octets : List ℕ) (setup : Setup) (facts : Facts) → AreQuiet (link_heard setup handle octets facts).notes
heard_quiet handle octets setup facts =
    let slot = facts.turn.slot in
    let room = has_room setup facts in
    let place = link_at handle facts.links in
    let encrypted = was_encrypted handle facts.view.links in
    let events = events_received encrypted handle slot room place octets in
    both_quiet (notes_taken slot room place octets) (notes_of_events facts.view events) (took_quiet slot room place octets)
    (events_quiet facts.view events (procedures_other events (reception_events encrypted handle slot room place octets)))

pieces_not : (kind : Note → Bool) → ((octets : List ℕ) → kind (Up (record { items = octets })) ≡ false) → (pieces : List (ℕ × Piece))
    → AreNot kind (map note_received pieces)
pieces_not kind up [] = tt
pieces_not kind up (piece ∷ pieces) = (up _, pieces_not kind up pieces)

-- ---- the handles with open links

abbrev pub is_open : Links → ℕ → Bool
is_open links handle = is_some (link_at handle links)

abbrev opened_in : ℕ → ℕ → List Bool → Bool
opened_in first handle [] = false
opened_in first handle (linked ∷ places) = if first == handle then linked else opened_in (first + 1) handle places

open_is : (first handle : ℕ) (links : Links) → is_some (link_from first handle links) ≡ opened_in first handle (opens links)
open_is first handle [] = refl
open_is first handle (place ∷ links) = by (first == handle) (open_is (first + 1) handle links)
  where
    by : (own : Bool) → is_some (link_from (first + 1) handle links) ≡ opened_in (first + 1) handle (opens links)
        → is_some (if own then place else link_from (first + 1) handle links) ≡ (if own then is_some place else opened_in (first + 1) handle (opens links))
    by true rest = refl
    by false rest = rest

pub same_open : (before after : Links) → opens after ≡ opens before → (handle : ℕ) → is_open after handle ≡ is_open before handle
same_open before after same handle = open_is 0 handle after ∙ ap (opened_in 0 handle) same ∙ sym (open_is 0 handle before)

reset_open : (handle : ℕ) (links : Links) → is_open (without_links links) handle ≡ false
reset_open handle links = ap (λ (place : Option OpenLink). is_some place) (map_under (λ place. None) refl 0 handle links)

-- ---- a packet of the host

caused_events : (enhanced : Bool) → IsOtherEvent (connection_failed enhanced 0x02)
caused_events true = tt
caused_events false = tt

caused_quiet : (facts : Facts) (command : Command) → AreQuiet (notes_of_events facts.view (events_caused facts command))
caused_quiet facts LeCreateCancel =
    events_quiet facts.view (connection_failed (wants_enhanced facts.view) 0x02 ∷ []) (caused_events (wants_enhanced facts.view), tt)
caused_quiet facts other = tt

answer_is : (opcode : ℕ) (event : Event) → IsAnswerTo opcode event → IsOtherEvent event
answer_is opcode (CommandComplete number answered fields) is = tt
answer_is opcode (CommandStatus status number answered) is = tt
answer_is opcode other is = absurd is

pub answers_are : (opcode : ℕ) (events : List Event) (none : Type 0) → AreOneAnswer opcode events none → AllByRecursion IsOtherEvent events
answers_are opcode [] none are = tt
answers_are opcode (event ∷ []) none are = (answer_is opcode event are, tt)
answers_are opcode (event ∷ other ∷ events) none are = absurd are

answer_quiet : (setup : Setup) (facts : Facts) (opcode : ℕ) (read : CmdRead) → AreQuiet (notes_of_events facts.view (answer_to setup facts opcode read))
answer_quiet setup facts opcode read =
    events_quiet facts.view (answer_to setup facts opcode read)
    (answers_are opcode (answer_to setup facts opcode read) (HasNoAnswer facts read) (answered_once setup facts opcode read))

-- a Reset shuts each link
shuts_not : (kind : Note → Bool) → ((handle : ℕ) → kind (note_shut handle 0) ≡ false) → (handles : List ℕ)
    → AreNot kind (map (λ handle. note_shut handle 0) handles)
shuts_not kind shut [] = tt
shuts_not kind shut (handle ∷ handles) = (shut handle, shuts_not kind shut handles)

still_shut : (own : Bool) → cond own false false ≡ false
still_shut true = refl
still_shut false = refl

keeps_shut : (handle : ℕ) (handles : List ℕ) → fold (note_open handle) false (map (λ one. note_shut one 0) handles) ≡ false
keeps_shut handle [] = refl
keeps_shut handle (one ∷ handles) =
    ap (λ (b : Bool). fold (note_open handle) b (map (λ other. note_shut other 0) handles)) (still_shut (one == handle)) ∙ keeps_shut handle handles

all_shut : (first handle : ℕ) (links : Links)
    → fold (note_open handle) (is_some (link_from first handle links)) (map (λ one. note_shut one 0) (handles_from first links)) ≡ false
all_shut first handle [] = refl
all_shut first handle (None ∷ links) = by (first == handle) (all_shut (first + 1) handle links)
  where
    by : (own : Bool)
        → fold (note_open handle) (is_some (link_from (first + 1) handle links)) (map (λ one. note_shut one 0) (handles_from (first + 1) links)) ≡ false
        → fold (note_open handle) (is_some (if own then None else link_from (first + 1) handle links)) (map (λ one. note_shut one 0) (handles_from (first + 1) links)) ≡ false
    by true rest = keeps_shut handle (handles_from (first + 1) links)
    by false rest = rest
all_shut first handle (Some link ∷ links) = by (first == handle) (all_shut (first + 1) handle links)
  where
    by : (own : Bool)
        → fold (note_open handle) (is_some (link_from (first + 1) handle links)) (map (λ one. note_shut one 0) (handles_from (first + 1) links)) ≡ false
        → fold (note_open handle) (cond own false (is_some (if own then Some link else link_from (first + 1) handle links)))
        (map (λ one. note_shut one 0) (handles_from (first + 1) links)) ≡ false
    by true rest = keeps_shut handle (handles_from (first + 1) links)
    by false rest = rest

reset_later : (handle first : ℕ) (links : Links) → handle < first → AreNot (is_shut_of handle) (map (λ one. note_shut one 0) (handles_from first links))
reset_later handle first [] later = tt
reset_later handle first (None ∷ links) later = reset_later handle (first + 1) links (omega (arith, later))
reset_later handle first (Some link ∷ links) later = (not_before handle first later, reset_later handle (first + 1) links (omega (arith, later)))

reset_once : (handle first : ℕ) (links : Links) → IsShutOnce handle (map (λ one. note_shut one 0) (handles_from first links))
reset_once handle first [] = tt
reset_once handle first (None ∷ links) = reset_once handle (first + 1) links
reset_once handle first (Some link ∷ links) = (
  (λ is. let equal = eqb-true first handle is in reset_later handle (first + 1) links (omega (arith, equal))),
  reset_once handle (first + 1) links,
)

fold_quiet : (handle : ℕ) (linked : Bool) (xs ys : List Note) → AreQuiet ys → fold (note_open handle) linked (xs ++ ys) ≡ fold (note_open handle) linked xs
fold_quiet handle linked xs ys quiet = fold-append (note_open handle) linked xs ys ∙ quiet_fold handle (fold (note_open handle) linked xs) ys quiet

accepted_as : (setup : Setup) (facts : Facts) (opcode : ℕ) (command : Command)
    → IsNotedAs (is_open facts.links) (is_open (links_after command facts.links)) (notes_known true setup facts opcode command)
accepted_as setup facts opcode Reset =
    let shut = notes_before facts Reset in
    let answer = notes_of_events facts.view (answer_to setup facts opcode (Known Reset)) in
    let caused = notes_of_events facts.view (events_caused facts Reset) in
    let answers = answer_quiet setup facts opcode (Known Reset) in
    let causes = caused_quiet facts Reset in
    let handles = handles_from 0 facts.links in
    shuts
    (both_not is_opening (shut ++ answer) caused
    (both_not is_opening shut answer (shuts_not is_opening (λ handle. refl) handles) (none_open answer answers)) (none_open caused causes))
    (λ handle. fold_quiet handle (is_open facts.links handle) (shut ++ answer) caused causes ∙ fold_quiet handle (is_open facts.links handle) shut answer answers
    ∙ all_shut 0 handle facts.links ∙ sym (reset_open handle facts.links))
    (λ handle. once_more handle (shut ++ answer) caused (once_more handle shut answer (reset_once handle 0 facts.links) (none_shut answer answers)) (none_shut caused causes))
accepted_as setup facts opcode other =
    let answer = notes_of_events facts.view (answer_to setup facts opcode (Known other)) in
    let caused = notes_of_events facts.view (events_caused facts other) in
    stays_quiet (is_open facts.links) (is_open facts.links) (answer ++ caused)
    (both_quiet answer caused (answer_quiet setup facts opcode (Known other)) (caused_quiet facts other)) (λ handle. refl)

known_as : (accepted : Bool) (setup : Setup) (facts : Facts) (opcode : ℕ) (command : Command)
    → IsNotedAs (is_open facts.links) (is_open (facts_known accepted setup facts command).links) (notes_known accepted setup facts opcode command)
known_as true setup facts opcode command = accepted_as setup facts opcode command
known_as false setup facts opcode command =
    stays_quiet (is_open facts.links) (is_open facts.links) _ (answer_quiet setup facts opcode (Known command)) (λ handle. refl)

-- one that asks something of links, too, opens and shuts none
asked_as : (setup : Setup) (facts : Facts) (opcode : ℕ) (command : Command) → is_asking facts.view command ≡ true
    → IsNotedAs (is_open facts.links) (is_open (links_commanded command (moment_of setup facts) facts.links))
    (notes_known true setup facts opcode command ++ notes_at_once facts command)
asked_as setup facts opcode command asks =
    let before = notes_before facts command in
    let answer = notes_of_events facts.view (answer_to setup facts opcode (Known command)) in
    let caused = notes_of_events facts.view (events_caused facts command) in
    let events = events_commanded_on command facts.links in
    let after = links_commanded command (moment_of setup facts) facts.links in
    stays_quiet (is_open facts.links) (is_open after) (((before ++ answer) ++ caused) ++ notes_at_once facts command)
    (both_quiet ((before ++ answer) ++ caused) (notes_at_once facts command)
    (both_quiet (before ++ answer) caused
    (both_quiet before answer (subst AreQuiet (sym (asking_shuts_none facts command asks)) tt) (answer_quiet setup facts opcode (Known command)))
    (caused_quiet facts command))
    (events_quiet facts.view events (procedures_other events (events_at_once_are command facts.links))))
    (same_open facts.links after (asked_same (λ place. is_some place) (λ link step asks. refl) command (moment_of setup facts) 0 facts.links))

read_as : (setup : Setup) (facts : Facts) (opcode : ℕ) (read : CmdRead)
    → IsNotedAs (is_open facts.links) (is_open (facts_commanded setup facts read).links) (notes_commanded setup facts opcode read)
read_as setup facts opcode (Known command) =
    both_asking setup facts command opcode (λ (after : Facts) (notes : List Note). IsNotedAs (is_open facts.links) (is_open after.links) notes)
    (known_as (status_of facts.view command == 0) setup facts opcode command) (asked_as setup facts opcode command)
read_as setup facts opcode UnknownOpcode =
    stays_quiet (is_open facts.links) (is_open facts.links) _ (answer_quiet setup facts opcode UnknownOpcode) (λ handle. refl)
read_as setup facts opcode BadLength =
    stays_quiet (is_open facts.links) (is_open facts.links) _ (answer_quiet setup facts opcode BadLength) (λ handle. refl)

event_stays : (linked : ℕ → Bool) (view : View) (events : List Event) → IsNotedAs linked linked (notes_of_events view events)
event_stays linked view events = stays (events_not is_opening (λ octets. refl) view events) (events_not is_shutting (λ octets. refl) view events) (λ handle. refl)

offered_as : (offer : Offer) (facts : Facts) (handle : ℕ) (start : Bool) (octets : List ℕ)
    → IsNotedAs (is_open facts.links) (is_open (facts_offered offer handle start octets facts).links) (notes_offered facts.view offer handle)
offered_as NoLink facts handle start octets = stays tt tt (λ handle. refl)
offered_as Empty facts handle start octets = event_stays (is_open facts.links) facts.view (CompletedPackets handle 1 ∷ [])
offered_as Overflow facts handle start octets = event_stays (is_open facts.links) facts.view (BufferOverflow 1 ∷ [])
offered_as Kept facts handle start octets = stays tt tt (same_open facts.links _ (changed_opens (link_after (DataGiven start octets)) handle facts.links))

fed_as : (setup : Setup) (facts : Facts) (fed : Fed)
    → IsNotedAs (is_open facts.links) (is_open (facts_fed setup facts fed).links) (notes_fed setup facts fed)
fed_as setup facts (Packet (HostCommand opcode body)) = read_as setup facts opcode (command_of opcode body.items)
fed_as setup facts (Packet (Acl handle start count body)) =
    offered_as (offer_of setup facts handle count) facts handle start body.items
fed_as setup facts LostSync = event_stays (is_open facts.links) facts.view (HardwareError 0x01 ∷ [])
fed_as setup facts More = stays tt tt (λ handle. refl)

-- ---- a turn begins

-- the links that end
ended_event : (view : View) (handle reason : ℕ) → AreQuiet (notes_of_events view (DisconnectionComplete 0 handle reason ∷ []))
ended_event view handle reason = events_quiet view (DisconnectionComplete 0 handle reason ∷ []) (tt, tt)

ends_not : (kind : Note → Bool) (view : View) → ((one : LinkEnded) → kind (note_shut one.handle one.reason.0) ≡ false)
    → ((handle reason : ℕ) → AreNot kind (notes_of_events view (DisconnectionComplete 0 handle reason ∷ [])))
    → (ended : List LinkEnded) → AreNot kind (flat_map (notes_ended view) ended)
ends_not kind view shut event [] = tt
ends_not kind view shut event (one ∷ ended) =
    both_not kind (notes_ended view one) (flat_map (notes_ended view) ended) (shut one, event one.handle one.reason.0) (ends_not kind view shut event ended)

one_end : (handle : ℕ) (linked : Bool) (view : View) (first reason : ℕ) (others : List LinkEnded)
    → fold (note_open handle) linked (flat_map (notes_ended view) (end_by first (Some reason) ++ others))
    ≡ fold (note_open handle) (cond (first == handle) false linked) (flat_map (notes_ended view) others)
one_end handle linked view first reason others =
    let event = notes_of_events view (DisconnectionComplete 0 first reason ∷ []) in
    let shut = cond (first == handle) false linked in
    fold-append (note_open handle) shut event (flat_map (notes_ended view) others)
    ∙ ap (λ (b : Bool). fold (note_open handle) b (flat_map (notes_ended view) others)) (quiet_fold handle shut event (ended_event view first reason))

later_end : (handle : ℕ) (linked : Bool) (view : View) (first : ℕ) (reason : Option ℕ) (others : List LinkEnded) → handle < first
    → fold (note_open handle) linked (flat_map (notes_ended view) (end_by first reason ++ others))
    ≡ fold (note_open handle) linked (flat_map (notes_ended view) others)
later_end handle linked view first None others later = refl
later_end handle linked view first (Some reason) others later =
    one_end handle linked view first reason others
    ∙ ap (λ (b : Bool). fold (note_open handle) (cond b false linked) (flat_map (notes_ended view) others)) (not_before handle first later)

later_ends : (handle : ℕ) (linked : Bool) (view : View) (reason : OpenLink → Option ℕ) (first : ℕ) (links : Links) → handle < first
    → fold (note_open handle) linked (flat_map (notes_ended view) (ends_by reason first links)) ≡ linked
later_ends handle linked view reason first [] later = refl
later_ends handle linked view reason first (None ∷ links) later = later_ends handle linked view reason (first + 1) links (omega (arith, later))
later_ends handle linked view reason first (Some link ∷ links) later =
    later_end handle linked view first (reason link) (ends_by reason (first + 1) links) later
    ∙ later_ends handle linked view reason (first + 1) links (omega (arith, later))

ends_open : (view : View) (reason : OpenLink → Option ℕ) (first handle : ℕ) (links : Links)
    → fold (note_open handle) (is_some (link_from first handle links)) (flat_map (notes_ended view) (ends_by reason first links))
    ≡ is_some (link_from first handle (links_without reason links))
ends_open view reason first handle [] = refl
ends_open view reason first handle (None ∷ links) = by (first == handle) refl (ends_open view reason (first + 1) handle links)
  where
    by : (own : Bool) → (first == handle) ≡ own
        → fold (note_open handle) (is_some (link_from (first + 1) handle links)) (flat_map (notes_ended view) (ends_by reason (first + 1) links))
        ≡ is_some (link_from (first + 1) handle (links_without reason links))
        → fold (note_open handle) (is_some (if own then None else link_from (first + 1) handle links)) (flat_map (notes_ended view) (ends_by reason (first + 1) links))
        ≡ is_some (if own then None else link_from (first + 1) handle (links_without reason links))
    by true is rest = let equal = eqb-true first handle is in later_ends handle false view reason (first + 1) links (omega (arith, equal))
    by false is rest = rest
ends_open view reason first handle (Some link ∷ links) = by (first == handle) (reason link) refl (ends_open view reason (first + 1) handle links)
  where
    by : (own : Bool) (code : Option ℕ) → (first == handle) ≡ own
        → fold (note_open handle) (is_some (link_from (first + 1) handle links)) (flat_map (notes_ended view) (ends_by reason (first + 1) links))
        ≡ is_some (link_from (first + 1) handle (links_without reason links))
        → fold (note_open handle) (is_some (if own then Some link else link_from (first + 1) handle links))
        (flat_map (notes_ended view) (end_by first code ++ ends_by reason (first + 1) links))
        ≡ is_some (if own then staying_by code link else link_from (first + 1) handle (links_without reason links))
    by true None is rest = let equal = eqb-true first handle is in later_ends handle true view reason (first + 1) links (omega (arith, equal))
    by true (Some code) is rest =
        let equal = eqb-true first handle is in
        one_end handle true view first code (ends_by reason (first + 1) links)
        ∙ ap (λ (b : Bool). fold (note_open handle) (cond b false true) (flat_map (notes_ended view) (ends_by reason (first + 1) links))) is
        ∙ later_ends handle false view reason (first + 1) links (omega (arith, equal))
    by false None is rest = rest
    by false (Some code) is rest =
        one_end handle _ view first code (ends_by reason (first + 1) links)
        ∙ ap (λ (b : Bool). fold (note_open handle) (cond b false (is_some (link_from (first + 1) handle links)))
        (flat_map (notes_ended view) (ends_by reason (first + 1) links))) is ∙ rest

end_later : (handle : ℕ) (view : View) (first : ℕ) (reason : Option ℕ) (others : List LinkEnded) → handle < first
    → AreNot (is_shut_of handle) (flat_map (notes_ended view) others) → AreNot (is_shut_of handle) (flat_map (notes_ended view) (end_by first reason ++ others))
end_later handle view first None others later rest = rest
end_later handle view first (Some reason) others later rest =
    let event = notes_of_events view (DisconnectionComplete 0 first reason ∷ []) in (
      not_before handle first later,
      both_not (is_shut_of handle) event (flat_map (notes_ended view) others) (none_of handle event (none_shut event (ended_event view first reason))) rest,
    )

ends_later : (handle : ℕ) (view : View) (reason : OpenLink → Option ℕ) (first : ℕ) (links : Links) → handle < first
    → AreNot (is_shut_of handle) (flat_map (notes_ended view) (ends_by reason first links))
ends_later handle view reason first [] later = tt
ends_later handle view reason first (None ∷ links) later = ends_later handle view reason (first + 1) links (omega (arith, later))
ends_later handle view reason first (Some link ∷ links) later =
    end_later handle view first (reason link) (ends_by reason (first + 1) links) later
    (ends_later handle view reason (first + 1) links (omega (arith, later)))

end_once : (handle : ℕ) (view : View) (first : ℕ) (reason : Option ℕ) (others : List LinkEnded)
    → (first ≡ handle → AreNot (is_shut_of handle) (flat_map (notes_ended view) others)) → IsShutOnce handle (flat_map (notes_ended view) others)
    → IsShutOnce handle (flat_map (notes_ended view) (end_by first reason ++ others))
end_once handle view first None others none once = once
end_once handle view first (Some reason) others none once =
    let event = notes_of_events view (DisconnectionComplete 0 first reason ∷ []) in
    let quiet = none_of handle event (none_shut event (ended_event view first reason)) in (
      (λ is. both_not (is_shut_of handle) event (flat_map (notes_ended view) others) quiet (none (eqb-true first handle is))),
      once_before handle event (flat_map (notes_ended view) others) quiet once,
    )

ends_once : (handle : ℕ) (view : View) (reason : OpenLink → Option ℕ) (first : ℕ) (links : Links) → IsShutOnce handle (flat_map (notes_ended view) (ends_by reason first links))
ends_once handle view reason first [] = tt
ends_once handle view reason first (None ∷ links) = ends_once handle view reason (first + 1) links
ends_once handle view reason first (Some link ∷ links) =
    end_once handle view first (reason link) (ends_by reason (first + 1) links)
    (λ same. ends_later handle view reason (first + 1) links (omega (arith, same))) (ends_once handle view reason (first + 1) links)

-- the links that enter an event
entry_quiet : (enters : Bool) (slot : ℕ) (link : OpenLink) → AreQuiet (notes_if enters slot link)
entry_quiet false slot link = tt
entry_quiet true slot link =
    entered_each IsQuiet link.setup slot (facts_in link) (record {
      applied = λ number. record { no_opening = refl; no_shutting = refl; no_report = refl };
      enter = record { no_opening = refl; no_shutting = refl; no_report = refl };
      done = λ kind. record { no_opening = refl; no_shutting = refl; no_report = refl };
      began = λ kind. record { no_opening = refl; no_shutting = refl; no_report = refl };
    })

place_quiet : (slot : ℕ) (place : Option OpenLink) → AreQuiet (notes_entering slot place)
place_quiet slot None = tt
place_quiet slot (Some link) = entry_quiet (enters_in slot link) slot link

entering_quiet : (view : View) (slot handle : ℕ) (links : Links) → AreQuiet (notes_all_entering view slot handle links)
entering_quiet view slot handle [] = tt
entering_quiet view slot handle (place ∷ links) =
    let notes = notes_entering slot place in
    let events = events_entering slot handle place in
    let told = notes_of_events view events in
    both_quiet (notes ++ told) (notes_all_entering view slot (handle + 1) links)
    (both_quiet notes told (place_quiet slot place) (events_quiet view events (procedures_other events (entering_events slot handle place))))
    (entering_quiet view slot (handle + 1) links)

-- which are open then
begun_opens : (slot : ℕ) (on : Bool) (facts : Facts)
    → opens (facts_passed (outcome_begun slot on facts)).links ≡ opens (links_without (due_in slot) facts.links)
begun_opens slot on facts =
    let stay = opens (links_without (due_in slot) facts.links) in
    served_is (λ (held : Facts). opens held.links ≡ stay) (λ slot activity held is. won_opens slot activity held.links ∙ is)
    (λ outcome. opens (facts_passed (fixing outcome)).links ≡ stay)
    (λ doing held may is. sent_opens held.turn.slot doing _ ∙ fixed_opens doing held.links ∙ is)
    on slot (winner_before_doing slot facts) (facts_before_doing slot facts)
    (mapped_opens (link_entered slot) (facts_ending slot facts).links ∙ ap (λ (held : Facts). opens held.links) (ending_is slot facts))

pub begun_reports : (facts : Facts) (setup : Setup) (slot : ℕ) (on : Bool) → AreNot is_report (notes_after setup facts (TurnBegins slot on))
begun_reports facts setup slot on =
    let outcome = outcome_begun slot on facts in
    let ends = notes_ending slot facts in
    let enters = notes_all_entering (facts_ending slot facts).view slot 0 (facts_ending slot facts).links in
    let sends = notes_doing outcome.next outcome.facts in
    both_not is_report (ends ++ enters) sends
    (both_not is_report ends enters (ends_not is_report facts.view (λ one. refl) (λ handle reason. none_report _ (ended_event facts.view handle reason)) (ends_for (due_in slot) facts))
    (none_report enters (entering_quiet (facts_ending slot facts).view slot 0 (facts_ending slot facts).links))) (none_report sends (doing_quiet outcome.next outcome.facts))

begun_as : (setup : Setup) (facts : Facts) (slot : ℕ) (on : Bool)
    → IsNotedAs (is_open facts.links) (is_open (facts_after setup facts (TurnBegins slot on)).links) (notes_after setup facts (TurnBegins slot on))
begun_as setup facts slot on =
    let outcome = outcome_begun slot on facts in
    let ends = notes_ending slot facts in
    let enters = notes_all_entering (facts_ending slot facts).view slot 0 (facts_ending slot facts).links in
    let sends = notes_doing outcome.next outcome.facts in
    let entered = entering_quiet (facts_ending slot facts).view slot 0 (facts_ending slot facts).links in
    let sent = doing_quiet outcome.next outcome.facts in
    shuts
    (both_not is_opening (ends ++ enters) sends
    (both_not is_opening ends enters (ends_not is_opening facts.view (λ one. refl) (λ handle reason. none_open _ (ended_event facts.view handle reason)) (ends_for (due_in slot) facts))
    (none_open enters entered)) (none_open sends sent))
    (λ handle. fold_quiet handle (is_open facts.links handle) (ends ++ enters) sends sent ∙ fold_quiet handle (is_open facts.links handle) ends enters entered
    ∙ ends_open facts.view (due_in slot) 0 handle facts.links ∙ sym (same_open (links_without (due_in slot) facts.links) _ (begun_opens slot on facts) handle))
    (λ handle. once_more handle (ends ++ enters) sends (once_more handle ends enters (ends_once handle facts.view (due_in slot) 0 facts.links) (none_shut enters entered)) (none_shut sends sent))

-- a link that does not end is open after it
pub staying_open : (setup : Setup) (facts : Facts) (slot : ℕ) (on : Bool) (handle : ℕ) (link : OpenLink) → link_at handle facts.links ≡ Some link
    → due_in slot link ≡ None → is_open (facts_after setup facts (TurnBegins slot on)).links handle ≡ true
staying_open setup facts slot on handle link at not_due =
    same_open (links_without (due_in slot) facts.links) _ (begun_opens slot on facts) handle
    ∙ ap (λ (place : Option OpenLink). is_some place) (stays_where_not_due (due_in slot) 0 handle facts.links ∙ ap (place_without (due_in slot)) at
    ∙ ap (λ (reason : Option ℕ). staying_by reason link) not_due)

-- ---- a phase

abbrev OfOutcome : Facts → Outcome → Type 0
OfOutcome facts outcome = IsNotedAs (is_open facts.links) (is_open (facts_passed outcome).links) (notes_passed outcome)

passed_as : (facts : Facts) (outcome : Outcome) → AreQuiet outcome.notes → opens outcome.facts.links ≡ opens facts.links → OfOutcome facts outcome
passed_as facts outcome quiet same =
    stays_quiet (is_open facts.links) _ (notes_passed outcome)
    (both_quiet outcome.notes (notes_doing outcome.next outcome.facts) quiet (doing_quiet outcome.next outcome.facts))
    (same_open facts.links _ (sent_opens outcome.facts.turn.slot outcome.next outcome.facts.links ∙ same))

complete_other : (enhanced : Bool) (link : LinkSetup) → IsOtherEvent (connection_complete enhanced link)
complete_other true link = tt
complete_other false link = tt

opened_as : (link : LinkSetup) (facts : Facts) → link.handle < length facts.links → link_at link.handle facts.links ≡ None
    → OfOutcome facts (opening link facts)
opened_as link facts within free =
    let events = notes_of_events facts.view (events_opened facts.view link) in
    let quiet = both_quiet events [] (events_quiet facts.view (events_opened facts.view link) (complete_other (wants_enhanced facts.view) link, (tt, tt))) tt in
    let end : EndSetup = record { link = link; opened = facts.turn.slot } in
    opens_first link.handle link.role link.own link.peer (events ++ []) refl
    (none_open (events ++ []) quiet) (none_shut (events ++ []) quiet) (none_report (events ++ []) quiet)
    (ap (λ (place : Option OpenLink). is_some place) free)
    (ap (λ (held : Facts). is_open held.links link.handle) (opening_is link facts)
    ∙ ap (λ (place : Option OpenLink). is_some place) (opened_at end facts.links within))
    (λ other differs. ap (λ (held : Facts). is_open held.links other) (opening_is link facts)
    ∙ ap (λ (place : Option OpenLink). is_some place)
    (other_stays (λ before. Some (new_link end)) 0 link.handle other facts.links (λ same. eqb-false link.handle other differs (sym same))))

report_quiet : (reports : Bool) (view : View) (pdu : AdvPdu) (kind : Option ReportKind)
    → AreQuiet (notes_of_events view (cond reports (report_events pdu kind) []))
report_quiet true view pdu None = tt
report_quiet true view pdu (Some kind) = events_quiet view (report_event pdu kind ∷ []) (tt, tt)
report_quiet false view pdu kind = tt

pub answered_quiet : (view : View) (answer : ScanAnswer) (pdu : AdvPdu) → AreQuiet (notes_of_events view (events_reported answer pdu))
answered_quiet view answer pdu = report_quiet _ view pdu (kind_of pdu)

phase_as : (setup : Setup) (facts : Facts) → HaveOwnHandles setup facts → EachOutcome setup facts (OfOutcome facts)
phase_as setup facts own = let nothing = stays tt tt (λ handle. refl) in record {
  rests = nothing;
  awaits_request = λ channel doing. nothing;
  awaits_response = λ channel advertiser doing. nothing;
  central_listens = λ handle doing. nothing;
  sent = λ channel link doing. let new = subst (IsNew facts.links) doing own.new in opened_as link facts new.0 new.1;
  responds = λ channel on doing is_on. nothing;
  taken = λ channel octets pdu on fields handle is_on hears takes free.
      let new = free_is_new facts.links handle free in
      opened_as (link_taken facts.view on.params.own pdu fields handle) facts new.0 new.1;
  scanned = λ channel octets pdu on doing is_on hears.
      passed_as facts (scanner_heard (Some on) true channel pdu facts)
      (answered_quiet facts.view (scan_answer on.params facts.view.accepted on.recent pdu) pdu) refl;
  answered = λ channel octets pdu on doing is_on hears.
      passed_as facts (scanner_heard (Some on) false channel pdu facts)
      (answered_quiet facts.view (scan_answer on.params facts.view.accepted on.recent pdu) pdu) refl;
  connects = λ channel octets pdu on access handle doing is_on hears answers next free in_range. nothing;
  received = λ handle octets.
      let room = has_room setup facts in
      passed_as facts (link_heard setup handle octets facts) (heard_quiet handle octets setup facts) (received_opens handle room octets facts);
}

-- a peripheral hears with the words that it was given
pub words_open : (setup : Setup) (handle : ℕ) (facts : Facts) → opens (facts_with_words setup handle facts).links ≡ opens facts.links
words_open setup handle facts = changed_opens (link_after (WordsGiven _ _)) handle facts.links

-- ---- each step

-- what the host receives as a turn ends
pub handed_not : (kind : Note → Bool) → ((octets : List ℕ) → kind (Up (record { items = octets })) ≡ false) → (facts : Facts) → AreNot kind (notes_handed facts)
handed_not kind up facts =
    let events = map event_completed (completed_from 0 facts.links) in
    both_not kind (notes_pieces facts) (notes_of_events facts.view events) (pieces_not kind up (pieces_handed facts)) (events_not kind up facts.view events)

-- and the links that end then
pub leaving_not : (kind : Note → Bool) → ((octets : List ℕ) → kind (Up (record { items = octets })) ≡ false)
    → ((handle reason : ℕ) → kind (note_shut handle reason) ≡ false) → (facts : Facts) → AreNot kind (notes_leaving (facts_handed facts))
leaving_not kind up shut facts =
    ends_not kind (facts_handed facts).view (λ one. shut one.handle one.reason.0)
    (λ handle reason. events_not kind up (facts_handed facts).view (DisconnectionComplete 0 handle reason ∷ [])) (ends_for ending_in (facts_handed facts))

pub leaving_reports : (facts : Facts) → AreNot is_report (notes_leaving (facts_handed facts))
leaving_reports facts =
    ends_not is_report (facts_handed facts).view (λ one. refl)
    (λ handle reason. none_report _ (ended_event (facts_handed facts).view handle reason)) (ends_for ending_in (facts_handed facts))

ended_as : (facts : Facts) (setup : Setup)
    → IsNotedAs (is_open facts.links) (is_open (facts_after setup facts TurnEnds).links) (notes_after setup facts TurnEnds)
ended_as facts setup =
    let handed = notes_handed facts in
    let leaving = notes_leaving (facts_handed facts) in
    let reported = links_reported facts.links in
    let none = handed_not is_shutting (λ octets. refl) facts in
    shuts
    (both_not is_opening handed leaving (handed_not is_opening (λ octets. refl) facts) (leaving_not is_opening (λ octets. refl) (λ handle reason. refl) facts))
    (λ handle. fold-append (note_open handle) (is_open facts.links handle) handed leaving
    ∙ ap (λ (linked : Bool). fold (note_open handle) linked leaving)
    (open_still handle (is_open facts.links handle) handed (handed_not is_opening (λ octets. refl) facts) none
    ∙ sym (same_open facts.links reported (mapped_opens link_reported facts.links) handle))
    ∙ ends_open (facts_handed facts).view ending_in 0 handle reported
    ∙ sym (ap (λ (held : Facts). is_open held.links handle) (leaving_is (facts_handed facts))))
    (λ handle. once_before handle handed leaving (none_of handle handed none) (ends_once handle (facts_handed facts).view ending_in 0 reported))

pub step_noted : (setup : Setup) (facts : Facts) (step : Step) → HaveOwnHandles setup facts
    → IsNotedAs (is_open facts.links) (is_open (facts_after setup facts step).links) (notes_after setup facts step)
step_noted setup facts (HostOctet octet) own = fed_as setup facts (result_of facts.octets octet)
step_noted setup facts (TurnBegins slot on) own = begun_as setup facts slot on
step_noted setup facts (PacketHeard octets) own =
    heard_is setup facts (OfOutcome facts) (phase_as setup facts own) facts.turn.doing octets refl
    (λ handle.
    let worded = facts_with_words setup handle facts in
    passed_as facts (link_heard setup handle octets worded) (heard_quiet handle octets setup worded)
    (received_opens handle (has_room setup facts) octets worded ∙ words_open setup handle facts))
step_noted setup facts NothingHeard own = unheard_is setup facts (OfOutcome facts) (phase_as setup facts own) facts.turn.doing refl
step_noted setup facts TurnEnds own = ended_as facts setup

-- ---- what follows

-- where a link is open none is opened
pub opens_where_free : (setup : Setup) (past : List Step) (step : Step) (handle : ℕ) (link : OpenLink) → link_at handle (facts_of setup past).links ≡ Some link
    → is_opened handle (notes_after setup (facts_of setup past) step) ≡ false
opens_where_free setup past step handle link at =
    false_from_ne_true (is_opened handle (notes_after setup (facts_of setup past) step))
    (λ opened. let h : Some link ≡ None = sym at ∙ opened_was_free handle setup (facts_of setup past) step (own_handles setup past) opened in absurd cc)

-- ---- a step of a turn that notes PDUs which are taken reports nothing

abbrev pub NoReport : Outcome → Type 0
NoReport outcome = AreNot is_report (notes_passed outcome)

passed_reports : (outcome : Outcome) → AreQuiet outcome.notes → NoReport outcome
passed_reports outcome quiet =
    none_report (notes_passed outcome)
    (both_quiet outcome.notes (notes_doing outcome.next outcome.facts) quiet (doing_quiet outcome.next outcome.facts))

opened_reports : (link : LinkSetup) (facts : Facts) → NoReport (opening link facts)
opened_reports link facts =
    let events = notes_of_events facts.view (events_opened facts.view link) in
    let quiet = events_quiet facts.view (events_opened facts.view link) (complete_other (wants_enhanced facts.view) link, (tt, tt)) in
    (refl, none_report (events ++ []) (both_quiet events [] quiet tt))

pub link_reports : (setup : Setup) (octets : List ℕ) (handle : ℕ) (facts : Facts) → NoReport (link_heard setup handle octets facts)
link_reports setup octets handle facts = passed_reports (link_heard setup handle octets facts) (heard_quiet handle octets setup facts)

pub phase_reports : (setup : Setup) (facts : Facts) → EachOutcome setup facts NoReport
phase_reports setup facts = record {
  rests = tt;
  awaits_request = λ channel doing. tt;
  awaits_response = λ channel advertiser doing. tt;
  central_listens = λ handle doing. tt;
  sent = λ channel link doing. opened_reports link facts;
  responds = λ channel on doing is_on. tt;
  taken = λ channel octets pdu on fields handle is_on hears takes free. opened_reports (link_taken facts.view on.params.own pdu fields handle) facts;
  scanned = λ channel octets pdu on doing is_on hears.
      passed_reports (scanner_heard (Some on) true channel pdu facts)
      (answered_quiet facts.view (scan_answer on.params facts.view.accepted on.recent pdu) pdu);
  answered = λ channel octets pdu on doing is_on hears.
      passed_reports (scanner_heard (Some on) false channel pdu facts)
      (answered_quiet facts.view (scan_answer on.params facts.view.accepted on.recent pdu) pdu);
  connects = λ channel octets pdu on access handle doing is_on hears answers next free in_range. tt;
  received = λ handle octets. link_reports setup octets handle facts;
}

pub turn_kinds : (setup : Setup) (facts : Facts) (step : Step) → IsInTurn step
    → AreNot is_taking (notes_after setup facts step) ⊎ AreNot is_report (notes_after setup facts step)
turn_kinds setup facts (HostOctet octet) turn = absurd turn
turn_kinds setup facts (TurnBegins slot on) turn = inr (begun_reports facts setup slot on)
turn_kinds setup facts (PacketHeard octets) turn =
    inr (heard_is setup facts NoReport (phase_reports setup facts) facts.turn.doing octets refl
    (λ handle. link_reports setup octets handle (facts_with_words setup handle facts)))
turn_kinds setup facts NothingHeard turn = inr (unheard_is setup facts NoReport (phase_reports setup facts) facts.turn.doing refl)
turn_kinds setup facts TurnEnds turn =
    inl (both_not is_taking (notes_handed facts) (notes_leaving (facts_handed facts)) (handed_not is_taking (λ octets. refl) facts)
    (leaving_not is_taking (λ octets. refl) (λ handle reason. refl) facts))

-- of a past
pub past_noted : (setup : Setup) (past : List Step) (step : Step)
    → IsNotedAs (is_open (facts_of setup past).links) (is_open (facts_after setup (facts_of setup past) step).links)
    (notes_after setup (facts_of setup past) step)
past_noted setup past step = step_noted setup (facts_of setup past) step (own_handles setup past)
