-- Notes that say nothing of what is sent, taken, handed up or reported on the link under a handle.
use Rattle.std.proofs.Common.{◌≡◌, ℕ, ◌+◌, ◌*◌, ◌/◌, ◌%◌, ◌<◌, ◌≤◌, ◌==◌, Bool, true, false, Option, Some, None, List, [], ◌∷◌, ◌++◌, map, cond, refl, ap, ◌∙◌, arith}
use Rattle.std.specs.Prelude.{◌≢◌, filter, flat_map, ⊤}
use Rattle.std.specs.List.{AllByRecursion}
use Rattle.std.proofs.Math.Nat.{add-mul-mod_self_right, mod-eq_of_lt}
use Rattle.wire_fields.specs.Field.{little_endian}
use Rattle.acl_banks.specs.declared.pieces.Piece.{Piece}
use Rattle.ble_base.specs.declared.notes.Note.{Note}
use Rattle.ble_base.specs.declared.error_codes.ErrCode.{ErrCode}
use Rattle.ble_base.specs.declared.notes.Note.TheVariants.{Up, Sent, Took, Enter, Applied, Began, Refused, Done}
use Rattle.ble_base.specs.declared.procedure_kinds.Kind.{Kind}
use Rattle.hci_cmd.specs.declared.command.Command.{Command}
use Rattle.hci_cmd.specs.declared.command.Command.TheVariants.{LeCreateCancel, Reset}
use Rattle.hci_cmd.specs.declared.command.CmdRead.{CmdRead}
use Rattle.hci_cmd.specs.declared.command.CmdRead.TheVariants.{Known, UnknownOpcode, BadLength}
use Rattle.hci_evt.specs.Event.{mask_bit_of, written}
use Rattle.hci_evt.specs.declared.event.Event.{Event}
use Rattle.hci_evt.specs.declared.event.Event.TheVariants.{CommandComplete, CommandStatus, CompletedPackets, DisconnectionComplete}
use Rattle.host_view.specs.Noted.{acl_handle, two_octets}
use Rattle.host_view.specs.View.{View}
use Rattle.host_view.specs.Status.{status_of}
use Rattle.adv_pdu.specs.declared.pdu.AdvPdu.{AdvPdu}
use Rattle.host_view.specs.scan_init.declared.reports.ReportKind.{ReportKind}
use Rattle.host_view.specs.scan_init.declared.scanner.ScanAnswer.{ScanAnswer}
use Rattle.host_view.specs.scan_init.Reports.{kind_of}
use Rattle.link_commands.specs.open_links.link_model.declared.setup.LinkSetup.{LinkSetup}
use Rattle.link_commands.specs.open_links.declared.ended.LinkEnded.{LinkEnded}
use Rattle.link_commands.specs.open_links.OpenLinks.{Links, OpenLink, facts_in, handles_from}
use Rattle.link_commands.specs.open_links.Turns.{enters_in, notes_entering, notes_if}
use Rattle.controller_model.specs.Answers.{AreOneAnswer, HasNoAnswer, IsAnswerTo, answer_to}
use Rattle.link_commands.specs.LinksCommanded.{events_commanded_on}
use Rattle.controller_model.specs.Commands.{events_caused, notes_before, notes_commanded, notes_known}
use Rattle.controller_model.specs.Data.{acl_packet, boundary_of, note_received}
use Rattle.controller_model.specs.Entering.{events_entering, notes_all_entering}
use Rattle.controller_model.specs.Events.{notes_of_events, passes}
use Rattle.controller_model.specs.Facts.{Setup, Facts}
use Rattle.controller_model.specs.Heard.{does_report, events_reported, report_event, report_events}
use Rattle.controller_model.specs.Links.{connection_complete, connection_failed, events_opened, note_opened, note_shut, notes_ended, wants_enhanced}
use Rattle.controller_model.specs.Since.{is_completed_on, is_handed_up_on, is_sent_on, is_took_on, note_completed, opens_under}
use Rattle.controller_model.proofs.AnsweredOnce.{answered_once}
use Rattle.controller_model.proofs.EndNotes.{entered_each}
use Rattle.controller_model.proofs.ProcedureEvents.{AreOfProcedures, IsOfProcedure, entering_events}
use Rattle.controller_model.proofs.Asked.{events_at_once_are, noted_asking, notes_at_once}

pub record IsOther (most handle : ℕ) (note : Note) : Type 0 where
  pub opens_none : opens_under handle note ≡ false
  pub sent_none : is_sent_on handle note ≡ false
  pub took_none : is_took_on handle note ≡ false
  -- a handle has 12 bits in ACL data, and 16 in an event
  pub handed_none : most ≤ 4096 → is_handed_up_on handle note ≡ false
  pub completed_none : most ≤ 4096 → is_completed_on handle note ≡ false

abbrev pub AreOther : ℕ → ℕ → List Note → Type 0
AreOther most handle notes = AllByRecursion (IsOther most handle) notes

-- ---- packets to the host

abbrev pub IsOtherEvent : Event → Type 0
IsOtherEvent (CompletedPackets handle count) = ⊥
IsOtherEvent event = ⊤

is_not : (n handle : ℕ) → n ≢ handle → (n == handle) ≡ false
is_not n handle other = grind arith

pub two_octets_hold : (n : ℕ) → n % 256 + 256 * (n / 256 % 256) ≡ n % 65536
two_octets_hold n = omega arith

pub past_bits : (n bits : ℕ) → n < 4096 → bits ≤ 0x2000 → (n + bits) % 65536 ≡ n + bits
past_bits n bits below few = mod-eq_of_lt (omega (arith, below, few))

data_handle : (start : Bool) (n : ℕ) → n < 4096 → (n + boundary_of start) % 65536 % 4096 ≡ n
data_handle true n below =
    ap (λ (m : ℕ). m % 4096) (past_bits n 0x2000 below (omega arith)) ∙ add-mul-mod_self_right n 2 4096 ∙ mod-eq_of_lt below
data_handle false n below =
    ap (λ (m : ℕ). m % 4096) (past_bits n 0x1000 below (omega arith)) ∙ add-mul-mod_self_right n 1 4096 ∙ mod-eq_of_lt below

pub acl_handle_is : (piece : ℕ × Piece) → piece.0 < 4096 → acl_handle (acl_packet piece) ≡ piece.0
unfolding little_endian
acl_handle_is piece below =
    ap (λ (n : ℕ). n % 4096) (two_octets_hold (piece.0 + boundary_of piece.1.start)) ∙ data_handle piece.1.start piece.0 below

pub event_handle_is : (n count : ℕ) → n < 65536 → two_octets 4 (written (CompletedPackets n count)) ≡ n
unfolding little_endian
event_handle_is n count below = two_octets_hold n ∙ mod-eq_of_lt below

module _ (most handle : ℕ) where
  pub event_other : (event : Event) → IsOtherEvent event → IsOther most handle (Up (record { items = written event }))
  unfolding little_endian
  event_other (CompletedPackets other count) is = absurd is
  event_other event is = record { opens_none = refl; sent_none = refl; took_none = refl; handed_none = λ few. refl; completed_none = λ few. refl }

  pub data_other : (piece : ℕ × Piece) → piece.0 < most → piece.0 ≢ handle → IsOther most handle (note_received piece)
  data_other piece below other = record {
    opens_none = refl;
    sent_none = refl;
    took_none = refl;
    handed_none = λ few.
        ap (λ (n : ℕ). n == handle) (acl_handle_is piece (omega (arith, below, few))) ∙ is_not piece.0 handle other;
    completed_none = λ few. refl;
  }

  pub completed_other : (other count : ℕ) → other < most → other ≢ handle → IsOther most handle (note_completed other count)
  unfolding little_endian
  completed_other other count below differs = record {
    opens_none = refl;
    sent_none = refl;
    took_none = refl;
    handed_none = λ few. refl;
    completed_none = λ few.
        ap (λ (n : ℕ). n == handle) (event_handle_is other count (omega (arith, below, few))) ∙ is_not other handle differs;
  }

  events_if : (passed : Bool) (event : Event) (notes : List Event) → IsOtherEvent event
      → AreOther most handle (map (λ event. Up (record { items = written event })) notes)
      → AreOther most handle (map (λ event. Up (record { items = written event })) (cond passed (event ∷ notes) notes))
  events_if true event notes is rest = (event_other event is, rest)
  events_if false event notes is rest = rest

  pub events_other : (view : View) (events : List Event) → AllByRecursion IsOtherEvent events → AreOther most handle (notes_of_events view events)
  events_other view [] are = tt
  events_other view (event ∷ events) are =
      events_if (passes view (mask_bit_of event)) event (filter (λ event. passes view (mask_bit_of event)) events) are.0 (events_other view events are.1)

  -- events of procedures are none of those
  one_of_procedures : (event : Event) → IsOfProcedure event → IsOtherEvent event
  one_of_procedures (CompletedPackets other count) is = absurd is
  one_of_procedures event is = tt

  pub procedures_other : (view : View) (events : List Event) → AreOfProcedures events → AreOther most handle (notes_of_events view events)
  procedures_other view events are = events_other view events (all events are)
    where
      all : (events : List Event) → AreOfProcedures events → AllByRecursion IsOtherEvent events
      all [] are = tt
      all (event ∷ events) are = (one_of_procedures event are.0, all events are.1)

  -- ---- notes of links

  pub shut_other : (other reason : ℕ) → IsOther most handle (note_shut other reason)
  shut_other other reason = record { opens_none = refl; sent_none = refl; took_none = refl; handed_none = λ few. refl; completed_none = λ few. refl }

  pub opened_other : (link : LinkSetup) → link.handle ≢ handle → IsOther most handle (note_opened link)
  opened_other link other = record {
    opens_none = is_not link.handle handle other;
    sent_none = refl;
    took_none = refl;
    handed_none = λ few. refl;
    completed_none = λ few. refl;
  }

  pub sent_other : (other number llid : ℕ) (octets : List ℕ) → other ≢ handle → IsOther most handle (Sent other number llid (record { items = octets }))
  sent_other other number llid octets differs = record {
    opens_none = refl;
    sent_none = is_not other handle differs;
    took_none = refl;
    handed_none = λ few. refl;
    completed_none = λ few. refl;
  }

  pub took_other : (other number llid : ℕ) (octets : List ℕ) → other ≢ handle → IsOther most handle (Took other number llid (record { items = octets }))
  took_other other number llid octets differs = record {
    opens_none = refl;
    sent_none = refl;
    took_none = is_not other handle differs;
    handed_none = λ few. refl;
    completed_none = λ few. refl;
  }

  applied_other : (other number event : ℕ) → IsOther most handle (Applied other number (record { 0 = event }))
  applied_other other number event = record { opens_none = refl; sent_none = refl; took_none = refl; handed_none = λ few. refl; completed_none = λ few. refl }

  pub began_other : (other : ℕ) (kind : Kind) → IsOther most handle (Began other kind)
  began_other other kind = record { opens_none = refl; sent_none = refl; took_none = refl; handed_none = λ few. refl; completed_none = λ few. refl }

  pub refused_other : (other : ℕ) (kind : Kind) (code : ErrCode) → IsOther most handle (Refused other kind code)
  refused_other other kind code = record { opens_none = refl; sent_none = refl; took_none = refl; handed_none = λ few. refl; completed_none = λ few. refl }

  pub done_other : (other : ℕ) (kind : Kind) → IsOther most handle (Done other kind)
  done_other other kind = record { opens_none = refl; sent_none = refl; took_none = refl; handed_none = λ few. refl; completed_none = λ few. refl }

  enter_other : (other event channel : ℕ) → IsOther most handle (Enter other (record { 0 = event }) channel)
  enter_other other event channel = record { opens_none = refl; sent_none = refl; took_none = refl; handed_none = λ few. refl; completed_none = λ few. refl }

  pub both_other : (xs ys : List Note) → AreOther most handle xs → AreOther most handle ys → AreOther most handle (xs ++ ys)
  both_other [] ys are also = also
  both_other (x ∷ xs) ys are also = (are.0, both_other xs ys are.1 also)

  -- ---- as a turn begins

  pub ends_other : (view : View) (ended : List LinkEnded) → AreOther most handle (flat_map (notes_ended view) ended)
  ends_other view [] = tt
  ends_other view (one ∷ ended) =
      both_other (notes_ended view one) (flat_map (notes_ended view) ended)
      (shut_other one.handle one.reason.0, events_other view (DisconnectionComplete 0 one.handle one.reason.0 ∷ []) (tt, tt)) (ends_other view ended)

  entry_other : (enters : Bool) (slot : ℕ) (link : OpenLink) → AreOther most handle (notes_if enters slot link)
  entry_other false slot link = tt
  entry_other true slot link =
      let other = link.setup.link.handle in
      entered_each (IsOther most handle) link.setup slot (facts_in link) (record {
        applied = λ number. applied_other other number _;
        enter = enter_other other _ _;
        done = done_other other;
        began = began_other other;
      })

  one_entering : (slot : ℕ) (place : Option OpenLink) → AreOther most handle (notes_entering slot place)
  one_entering slot None = tt
  one_entering slot (Some link) = entry_other (enters_in slot link) slot link

  pub entering_other : (view : View) (slot first : ℕ) (links : Links) → AreOther most handle (notes_all_entering view slot first links)
  entering_other view slot first [] = tt
  entering_other view slot first (place ∷ links) =
      let events = events_entering slot first place in
      both_other (notes_entering slot place ++ notes_of_events view events) (notes_all_entering view slot (first + 1) links)
      (both_other (notes_entering slot place) (notes_of_events view events) (one_entering slot place)
      (procedures_other view events (entering_events slot first place)))
      (entering_other view slot (first + 1) links)

  -- ---- a link that is opened

  complete_other : (enhanced : Bool) (link : LinkSetup) → IsOtherEvent (connection_complete enhanced link)
  complete_other true link = tt
  complete_other false link = tt

  pub opening_other : (view : View) (link : LinkSetup) → AreOther most handle (notes_of_events view (events_opened view link))
  opening_other view link = events_other view (events_opened view link) (complete_other (wants_enhanced view) link, (tt, tt))

  -- ---- what a scanner reports

  report_other : (pdu : AdvPdu) (kind : Option ReportKind) (view : View) → AreOther most handle (notes_of_events view (report_events pdu kind))
  report_other pdu None view = tt
  report_other pdu (Some kind) view = events_other view (report_event pdu kind ∷ []) (tt, tt)

  report_if : (reports : Bool) (pdu : AdvPdu) (view : View)
      → AreOther most handle (notes_of_events view (cond reports (report_events pdu (kind_of pdu)) []))
  report_if true pdu view = report_other pdu (kind_of pdu) view
  report_if false pdu view = tt

  pub reporting_other : (answer : ScanAnswer) (pdu : AdvPdu) (view : View) → AreOther most handle (notes_of_events view (events_reported answer pdu))
  reporting_other answer pdu view = report_if (does_report answer) pdu view

  -- ---- a command

  shuts_other : (handles : List ℕ) → AreOther most handle (map (λ other. note_shut other 0) handles)
  shuts_other [] = tt
  shuts_other (other ∷ handles) = (shut_other other 0, shuts_other handles)

  before_other : (facts : Facts) (command : Command) → AreOther most handle (notes_before facts command)
  before_other facts Reset = shuts_other (handles_from 0 facts.links)
  before_other facts other = tt

  failed_other : (enhanced : Bool) → IsOtherEvent (connection_failed enhanced 0x02)
  failed_other true = tt
  failed_other false = tt

  caused_other : (facts : Facts) (command : Command) → AreOther most handle (notes_of_events facts.view (events_caused facts command))
  caused_other facts LeCreateCancel =
      events_other facts.view (connection_failed (wants_enhanced facts.view) 0x02 ∷ []) (failed_other (wants_enhanced facts.view), tt)
  caused_other facts other = tt

  answer_is : (opcode : ℕ) (event : Event) → IsAnswerTo opcode event → IsOtherEvent event
  answer_is opcode (CommandComplete number answered fields) is = tt
  answer_is opcode (CommandStatus status number answered) is = tt
  answer_is opcode other is = absurd is

  answers_are : (opcode : ℕ) (events : List Event) (none : Type 0) → AreOneAnswer opcode events none → AllByRecursion IsOtherEvent events
  answers_are opcode [] none are = tt
  answers_are opcode (event ∷ []) none are = (answer_is opcode event are, tt)
  answers_are opcode (event ∷ other ∷ events) none are = absurd are

  answer_other : (setup : Setup) (facts : Facts) (opcode : ℕ) (read : CmdRead)
      → AreOther most handle (notes_of_events facts.view (answer_to setup facts opcode read))
  answer_other setup facts opcode read =
      events_other facts.view (answer_to setup facts opcode read)
      (answers_are opcode (answer_to setup facts opcode read) (HasNoAnswer facts read) (answered_once setup facts opcode read))

  known_other : (accepted : Bool) (setup : Setup) (facts : Facts) (opcode : ℕ) (command : Command)
      → AreOther most handle (notes_known accepted setup facts opcode command)
  known_other false setup facts opcode command = answer_other setup facts opcode (Known command)
  known_other true setup facts opcode command =
      let answer = notes_of_events facts.view (answer_to setup facts opcode (Known command)) in
      both_other (notes_before facts command ++ answer) _
      (both_other (notes_before facts command) answer (before_other facts command) (answer_other setup facts opcode (Known command)))
      (caused_other facts command)

  pub command_other : (setup : Setup) (facts : Facts) (opcode : ℕ) (read : CmdRead)
      → AreOther most handle (notes_commanded setup facts opcode read)
  command_other setup facts opcode (Known command) =
      noted_asking setup facts command opcode (AreOther most handle) (known_other (status_of facts.view command == 0) setup facts opcode command)
      (λ notes asks are. both_other notes (notes_at_once facts command) are
      (procedures_other facts.view (events_commanded_on command facts.links) (events_at_once_are command facts.links)))
  command_other setup facts opcode UnknownOpcode = answer_other setup facts opcode UnknownOpcode
  command_other setup facts opcode BadLength = answer_other setup facts opcode BadLength
