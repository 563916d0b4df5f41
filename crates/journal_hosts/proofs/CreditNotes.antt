-- Which notes of a controller are credits: in a turn, those that it gives as the turn ends; before, only those of packets
-- without octets.
use Rattle.std.proofs.Common.{◌≡◌, ℕ, ◌+◌, ◌==◌, Bool, true, false, Option, Some, None, List, [], ◌∷◌, ◌++◌, map, cond, refl, sym, ◌∙◌}
use Rattle.std.specs.Prelude.{⊤, filter, flat_map}
use Rattle.std.specs.List.{AllByRecursion}
use Rattle.acl_banks.specs.declared.pieces.Piece.{Piece}
use Rattle.adv_pdu.specs.declared.pdu.AdvPdu.{AdvPdu}
use Rattle.ble_base.specs.declared.notes.Note.{Note}
use Rattle.ble_base.specs.declared.notes.Note.TheVariants.{Shut, Up}
use Rattle.h4_frames.specs.declared.packet.HostPacket.TheVariants.{Command as HostCommand, Acl}
use Rattle.h4_frames.specs.declared.packet.Fed.{Fed}
use Rattle.h4_frames.specs.declared.packet.Fed.TheVariants.{More, Packet, LostSync}
use Rattle.hci_cmd.specs.declared.command.Command.{Command}
use Rattle.hci_cmd.specs.declared.command.Command.TheVariants.{LeCreateCancel, Reset}
use Rattle.hci_cmd.specs.declared.command.CmdRead.{CmdRead}
use Rattle.hci_cmd.specs.declared.command.CmdRead.TheVariants.{Known, UnknownOpcode, BadLength}
use Rattle.hci_cmd.specs.Command.{command_of}
use Rattle.hci_evt.specs.Event.{mask_bit_of, written}
use Rattle.hci_evt.specs.declared.event.Event.{Event}
use Rattle.hci_evt.specs.declared.event.Event.TheVariants.{DisconnectionComplete, HardwareError, BufferOverflow, ChannelSelection, CompletedPackets}
use Rattle.host_view.specs.Links.{was_encrypted}
use Rattle.host_view.specs.Noted.{is_acl_data}
use Rattle.host_view.specs.View.{View}
use Rattle.host_view.specs.Status.{status_of}
use Rattle.journal_data.specs.link_model.declared.setup.LinkSetup.{LinkSetup}
use Rattle.journal_data.specs.link_model.Packets.{good_pdu}
use Rattle.journal_data.specs.open_links.declared.ended.LinkEnded.{LinkEnded}
use Rattle.journal_data.specs.open_links.declared.offers.Offer.{Offer}
use Rattle.journal_data.specs.open_links.declared.offers.Offer.TheVariants.{NoLink, Empty, Overflow, Kept}
use Rattle.journal_data.specs.open_links.OpenLinks.{Links, OpenLink, facts_in, handles_from, link_at}
use Rattle.journal_data.specs.open_links.Turns.{due_in, enters_in, notes_entering, notes_if, ending_in}
use Rattle.scan_init.specs.declared.reports.ReportKind.{ReportKind}
use Rattle.scan_init.specs.declared.scanner.ScanAnswer.{ScanAnswer}
use Rattle.scan_init.specs.Reports.{does_ask, kind_of, scan_answer}
use Rattle.journal_data.specs.controller_model.declared.doing.Doing.{Doing}
use Rattle.journal_data.specs.controller_model.declared.doing.Doing.TheVariants.{Advertises, CentralSends, PeripheralSends}
use Rattle.journal_data.specs.controller_model.Answers.{HasNoAnswer, answer_to}
use Rattle.journal_data.specs.controller_model.Commands.{events_caused, notes_before, notes_commanded, notes_known}
use Rattle.journal_data.specs.controller_model.Data.{note_received, notes_offered, offer_of}
use Rattle.journal_data.specs.controller_model.Events.{notes_of_events, passes}
use Rattle.journal_data.specs.controller_model.Facts.{Setup, Facts}
use Rattle.journal_data.specs.controller_model.Heard.{asks_if, does_report, events_reported, has_room, link_taken, notes_taken, report_event, report_events, scanner_after, with_scanner, events_received, facts_with_words, link_heard}
use Rattle.journal_data.specs.controller_model.Links.{connection_complete, connection_failed, ends_for, facts_ending, note_shut, notes_ended, notes_ending, notes_opened, wants_enhanced, notes_without, notes_leaving}
use Rattle.journal_data.specs.controller_model.Outcome.{notes_passed}
use Rattle.journal_data.specs.controller_model.Packets.{notes_doing, notes_sent}
use Rattle.journal_data.specs.controller_model.Radio.{outcome_begun, turn_begins}
use Rattle.journal_data.specs.controller_model.Side.{notes_after, notes_fed, result_of}
use Rattle.journal_data.specs.controller_model.Step.{Step, HostOctet, TurnBegins, PacketHeard, NothingHeard, TurnEnds}
use Rattle.journal_data.proofs.controller_model.AnsweredOnce.{answered_once}
use Rattle.journal_data.proofs.controller_model.Phases.{EachOutcome, heard_is, unheard_is}
use Rattle.wire_fields.specs.Field.{little_endian}
use Rattle.journal_data.proofs.Openness.{all_append, IsOtherEvent, procedures_other, answers_are}
use Rattle.journal_hosts.specs.Credits.{credit_count, is_credit}
use Rattle.journal_data.proofs.controller_model.ProcedureEvents.{entering_events, reception_events}
use Rattle.journal_data.proofs.controller_model.EndNotes.{sent_each, received_each, entered_each}
use Rattle.journal_data.specs.controller_model.Entering.{events_entering, notes_all_entering}
use Rattle.journal_data.specs.controller_model.link_commands.LinksCommanded.{events_commanded_on}
use Rattle.journal_data.proofs.controller_model.Asked.{events_at_once_are, noted_asking, notes_at_once}

abbrev pub IsNoCredit : Note → Type 0
IsNoCredit (Up packet) = is_credit packet.items ≡ false
IsNoCredit other = ⊤

-- a packet to the host, which is no data, and is of one packet if it is a credit, or a link that is shut
abbrev pub IsOfOctet : Note → Type 0
IsOfOctet (Up packet) = (is_acl_data packet.items ≡ false) × (is_credit packet.items ≡ true → credit_count packet.items ≡ 1)
IsOfOctet (Shut handle reason) = ⊤
IsOfOctet other = ⊥

abbrev pub AreNoCredits : List Note → Type 0
AreNoCredits notes = AllByRecursion IsNoCredit notes

both : (xs ys : List Note) → AreNoCredits xs → AreNoCredits ys → AreNoCredits (xs ++ ys)
both xs ys all also = all_append IsNoCredit xs ys all also

-- ---- events

other_is : (event : Event) → IsOtherEvent event → is_credit (written event) ≡ false
unfolding little_endian
other_is (CompletedPackets handle count) is = absurd is
other_is event is = refl

module _ (P : Note → Type 0) (each : (event : Event) → IsOtherEvent event → P (Up (record { items = written event }))) where
  plain_each : (view : View) (events : List Event) → AllByRecursion IsOtherEvent events → AllByRecursion P (notes_of_events view events)
  plain_each view [] are = tt
  plain_each view (event ∷ events) are = by (passes view (mask_bit_of event)) (plain_each view events are.1)
    where
      by : (passed : Bool) → AllByRecursion P (notes_of_events view events)
          → AllByRecursion P (map (λ one. Up (record { items = written one }))
          (cond passed (event ∷ filter (λ one. passes view (mask_bit_of one)) events) (filter (λ one. passes view (mask_bit_of one)) events)))
      by true rest = (each event are.0, rest)
      by false rest = rest

plain_notes : (view : View) (events : List Event) → AllByRecursion IsOtherEvent events → AreNoCredits (notes_of_events view events)
plain_notes view events are = plain_each IsNoCredit other_is view events are

event_none : (event : Event) → is_acl_data (written event) ≡ false
unfolding little_endian
event_none (CompletedPackets handle count) = refl
event_none event = refl

plain_one : (event : Event) → IsOtherEvent event → IsOfOctet (Up (record { items = written event }))
plain_one event is = (event_none event, λ credit. absurd (let h : false ≡ true = sym (other_is event is) ∙ credit in absurd cc))

plain_ones : (view : View) (events : List Event) → AllByRecursion IsOtherEvent events → AllByRecursion IsOfOctet (notes_of_events view events)
plain_ones view events are = plain_each IsOfOctet plain_one view events are

-- ---- a turn begins

ends_none : (view : View) (ended : List LinkEnded) → AreNoCredits (flat_map (notes_ended view) ended)
ends_none view [] = tt
ends_none view (one ∷ ended) =
    both (notes_ended view one) (flat_map (notes_ended view) ended)
    (tt, plain_notes view (DisconnectionComplete 0 one.handle one.reason.0 ∷ []) (tt, tt)) (ends_none view ended)

ending_none : (reason : OpenLink → Option ℕ) (facts : Facts) → AreNoCredits (notes_without reason facts)
ending_none reason facts = ends_none facts.view (ends_for reason facts)

entry_none : (enters : Bool) (slot : ℕ) (link : OpenLink) → AreNoCredits (notes_if enters slot link)
entry_none false slot link = tt
entry_none true slot link =
    entered_each IsNoCredit link.setup slot (facts_in link) (record { applied = λ number. tt; enter = tt; done = λ kind. tt; began = λ kind. tt })

place_none : (slot : ℕ) (place : Option OpenLink) → AreNoCredits (notes_entering slot place)
place_none slot None = tt
place_none slot (Some link) = entry_none (enters_in slot link) slot link

entering_none : (view : View) (slot handle : ℕ) (links : Links) → AreNoCredits (notes_all_entering view slot handle links)
entering_none view slot handle [] = tt
entering_none view slot handle (place ∷ links) =
    let notes = notes_entering slot place in
    let events = events_entering slot handle place in
    both (notes ++ notes_of_events view events) (notes_all_entering view slot (handle + 1) links)
    (both notes (notes_of_events view events) (place_none slot place)
    (plain_notes view events (procedures_other events (entering_events slot handle place))))
    (entering_none view slot (handle + 1) links)

sent_none : (slot : ℕ) (found : Option OpenLink) → AreNoCredits (notes_sent slot found)
sent_none slot None = tt
sent_none slot (Some link) = sent_each IsNoCredit link.setup (facts_in link) (λ number llid octets. tt)

doing_none : (doing : Doing) (facts : Facts) → AreNoCredits (notes_doing doing facts)
doing_none (CentralSends handle) facts = sent_none facts.turn.slot (link_at handle facts.links)
doing_none (PeripheralSends handle) facts = sent_none facts.turn.slot (link_at handle facts.links)
doing_none (Advertises channel) facts = tt
doing_none other facts = tt

begin_none : (slot : ℕ) (on : Bool) (facts : Facts) → AreNoCredits (notes_passed (outcome_begun slot on facts))
begin_none slot on facts =
    let begun = turn_begins slot (facts_ending slot facts) in
    let entering = notes_all_entering begun.view slot 0 begun.links in
    both (notes_ending slot facts ++ entering) _
    (both (notes_ending slot facts) entering (ending_none (due_in slot) facts) (entering_none begun.view slot 0 begun.links))
    (doing_none (outcome_begun slot on facts).next (outcome_begun slot on facts).facts)

-- ---- a phase

took_none : (slot : ℕ) (room : Bool) (found : Option OpenLink) (octets : List ℕ) → AreNoCredits (notes_taken slot room found octets)
took_none slot room None octets = tt
took_none slot room (Some link) octets =
    received_each IsNoCredit link.setup slot room (good_pdu link.setup (facts_in link) octets) (facts_in link)
    (record { took = λ number llid octets. tt; refused = λ kind code. tt; done = λ kind. tt })

heard_none : (setup : Setup) (handle : ℕ) (octets : List ℕ) (facts : Facts) → AreNoCredits (link_heard setup handle octets facts).notes
heard_none setup handle octets facts =
    let slot = facts.turn.slot in
    let room = has_room setup facts in
    let place = link_at handle facts.links in
    let encrypted = was_encrypted handle facts.view.links in
    let events = events_received encrypted handle slot room place octets in
    both (notes_taken slot room place octets) (notes_of_events facts.view events) (took_none slot room place octets)
    (plain_notes facts.view events (procedures_other events (reception_events encrypted handle slot room place octets)))

complete_plain : (enhanced : Bool) (link : LinkSetup) → IsOtherEvent (connection_complete enhanced link)
complete_plain true link = tt
complete_plain false link = tt

opened_none : (view : View) (link : LinkSetup) → AreNoCredits (notes_opened view link)
opened_none view link = (
  tt,
  plain_notes view (connection_complete (wants_enhanced view) link ∷ ChannelSelection link.handle (cond link.two 1 0) ∷ [])
      (complete_plain (wants_enhanced view) link, (tt, tt)),
)

reports_none : (view : View) (pdu : AdvPdu) (kind : Option ReportKind) → AreNoCredits (notes_of_events view (report_events pdu kind))
reports_none view pdu None = tt
reports_none view pdu (Some kind) = plain_notes view (report_event pdu kind ∷ []) (tt, tt)

report_none : (reports : Bool) (view : View) (pdu : AdvPdu)
    → AreNoCredits (notes_of_events view (cond reports (report_events pdu (kind_of pdu)) []))
report_none true view pdu = reports_none view pdu (kind_of pdu)
report_none false view pdu = tt

scanned_none : (view : View) (answer : ScanAnswer) (pdu : AdvPdu) → AreNoCredits (notes_of_events view (events_reported answer pdu))
scanned_none view answer pdu = report_none (does_report answer) view pdu

link_none : (setup : Setup) (handle : ℕ) (octets : List ℕ) (facts : Facts) → AreNoCredits (notes_passed (link_heard setup handle octets facts))
link_none setup handle octets facts =
    let heard = link_heard setup handle octets facts in
    both heard.notes (notes_doing heard.next heard.facts) (heard_none setup handle octets facts) (doing_none heard.next heard.facts)

phase_none : (setup : Setup) (facts : Facts) → EachOutcome setup facts (λ outcome. AreNoCredits (notes_passed outcome))
phase_none setup facts = record {
  rests = tt;
  awaits_request = λ channel doing. tt;
  awaits_response = λ channel advertiser doing. tt;
  central_listens = λ handle doing. tt;
  sent = λ channel link doing. both (notes_opened facts.view link) [] (opened_none facts.view link) tt;
  responds = λ channel on doing is_on. tt;
  taken = λ channel octets pdu on fields handle is_on hears takes free.
      let link = link_taken facts.view on.params.own pdu fields handle in
      both (notes_opened facts.view link) [] (opened_none facts.view link) tt;
  scanned = λ channel octets pdu on doing is_on hears.
      let answer = scan_answer on.params facts.view.accepted on.recent pdu in
      both (notes_of_events facts.view (events_reported answer pdu)) _ (scanned_none facts.view answer pdu)
      (doing_none (asks_if (does_ask answer) channel pdu) (with_scanner (scanner_after on facts.view.accepted pdu) facts));
  answered = λ channel octets pdu on doing is_on hears.
      let answer = scan_answer on.params facts.view.accepted on.recent pdu in
      both (notes_of_events facts.view (events_reported answer pdu)) [] (scanned_none facts.view answer pdu) tt;
  connects = λ channel octets pdu on access handle doing is_on hears answers next free in_range. tt;
  received = λ handle octets. link_none setup handle octets facts;
}

-- ---- the calls of a turn before its end

abbrev pub IsBeforeEnd : Step → Type 0
IsBeforeEnd (HostOctet octet) = ⊥
IsBeforeEnd (TurnBegins slot on) = ⊤
IsBeforeEnd (PacketHeard octets) = ⊤
IsBeforeEnd NothingHeard = ⊤
IsBeforeEnd TurnEnds = ⊥

pub turn_none : (setup : Setup) (facts : Facts) (step : Step) → IsBeforeEnd step → AreNoCredits (notes_after setup facts step)
turn_none setup facts (HostOctet octet) is = absurd is
turn_none setup facts (TurnBegins slot on) is = begin_none slot on facts
turn_none setup facts (PacketHeard octets) is =
    heard_is setup facts (λ outcome. AreNoCredits (notes_passed outcome)) (phase_none setup facts) facts.turn.doing octets refl
    (λ handle. link_none setup handle octets (facts_with_words setup handle facts))
turn_none setup facts NothingHeard is =
    unheard_is setup facts (λ outcome. AreNoCredits (notes_passed outcome)) (phase_none setup facts) facts.turn.doing refl
turn_none setup facts TurnEnds is = absurd is

-- the data that the host receives as the turn ends
pub pieces_none : (pieces : List (ℕ × Piece)) → AreNoCredits (map note_received pieces)
pieces_none [] = tt
pieces_none (piece ∷ pieces) = (refl, pieces_none pieces)

-- and the links that end then
pub leaving_none : (facts : Facts) → AreNoCredits (notes_leaving facts)
leaving_none facts = ending_none ending_in facts

-- ---- an octet of the host

answer_ones : (setup : Setup) (facts : Facts) (opcode : ℕ) (read : CmdRead)
    → AllByRecursion IsOfOctet (notes_of_events facts.view (answer_to setup facts opcode read))
answer_ones setup facts opcode read =
    plain_ones facts.view (answer_to setup facts opcode read)
    (answers_are opcode (answer_to setup facts opcode read) (HasNoAnswer facts read) (answered_once setup facts opcode read))

shut_ones : (handles : List ℕ) → AllByRecursion IsOfOctet (map (λ handle. note_shut handle 0) handles)
shut_ones [] = tt
shut_ones (handle ∷ handles) = (tt, shut_ones handles)

before_ones : (facts : Facts) (command : Command) → AllByRecursion IsOfOctet (notes_before facts command)
before_ones facts Reset = shut_ones (handles_from 0 facts.links)
before_ones facts other = tt

failed_plain : (enhanced : Bool) (status : ℕ) → IsOtherEvent (connection_failed enhanced status)
failed_plain true status = tt
failed_plain false status = tt

caused_ones : (facts : Facts) (command : Command) → AllByRecursion IsOfOctet (notes_of_events facts.view (events_caused facts command))
caused_ones facts LeCreateCancel =
    plain_ones facts.view (connection_failed (wants_enhanced facts.view) 0x02 ∷ []) (failed_plain (wants_enhanced facts.view) 0x02, tt)
caused_ones facts other = tt

known_ones : (accepted : Bool) (setup : Setup) (facts : Facts) (opcode : ℕ) (command : Command)
    → AllByRecursion IsOfOctet (notes_known accepted setup facts opcode command)
known_ones false setup facts opcode command = answer_ones setup facts opcode (Known command)
known_ones true setup facts opcode command =
    let answer = notes_of_events facts.view (answer_to setup facts opcode (Known command)) in
    all_append IsOfOctet (notes_before facts command ++ answer) _
    (all_append IsOfOctet (notes_before facts command) answer (before_ones facts command) (answer_ones setup facts opcode (Known command)))
    (caused_ones facts command)

command_ones : (setup : Setup) (facts : Facts) (opcode : ℕ) (read : CmdRead) → AllByRecursion IsOfOctet (notes_commanded setup facts opcode read)
command_ones setup facts opcode (Known command) =
    noted_asking setup facts command opcode (AllByRecursion IsOfOctet) (known_ones (status_of facts.view command == 0) setup facts opcode command)
    (λ notes asks all.
    let events = events_commanded_on command facts.links in
    all_append IsOfOctet notes (notes_at_once facts command) all (plain_ones facts.view events (procedures_other events (events_at_once_are command facts.links))))
command_ones setup facts opcode UnknownOpcode = answer_ones setup facts opcode UnknownOpcode
command_ones setup facts opcode BadLength = answer_ones setup facts opcode BadLength

offered_ones : (view : View) (offer : Offer) (handle : ℕ) → AllByRecursion IsOfOctet (notes_offered view offer handle)
unfolding little_endian
offered_ones view NoLink handle = tt
offered_ones view Empty handle = ((refl, λ is. refl), tt)
offered_ones view Overflow handle = plain_ones view (BufferOverflow 1 ∷ []) (tt, tt)
offered_ones view Kept handle = tt

fed_ones : (setup : Setup) (facts : Facts) (fed : Fed) → AllByRecursion IsOfOctet (notes_fed setup facts fed)
fed_ones setup facts (Packet (HostCommand opcode body)) = command_ones setup facts opcode (command_of opcode body.items)
fed_ones setup facts (Packet (Acl handle start count body)) = offered_ones facts.view (offer_of setup facts handle count) handle
fed_ones setup facts LostSync = plain_ones facts.view (HardwareError 0x01 ∷ []) (tt, tt)
fed_ones setup facts More = tt

pub octet_ones : (setup : Setup) (facts : Facts) (octet : ℕ) → AllByRecursion IsOfOctet (notes_after setup facts (HostOctet octet))
octet_ones setup facts octet = fed_ones setup facts (result_of facts.octets octet)
