-- What a controller reports of data and of complete packets, in any step: the length of an ACL packet is that of its data,
-- and a Number Of Completed Packets event is of one handle.
use Rattle.std.proofs.Common.{◌≡◌, ℕ, ◌≤◌, ◌==◌, Bool, true, false, List, [], ◌∷◌, ◌++◌, refl, sym, ◌∙◌, length, ◌+◌}
use Rattle.std.specs.Prelude.{filter, map, ⊤}
use Rattle.std.specs.List.{AllByRecursion}
use Rattle.std.proofs.lemmas.Bool.{or_parts}
use Rattle.std.proofs.lemmas.List.Elements.{recursion_from_All}
use Rattle.acl_banks.specs.declared.pieces.Piece.{Piece}
use Rattle.ble_base.specs.declared.notes.Note.{Note}
use Rattle.ble_base.specs.declared.notes.Note.TheVariants.{Up}
use Rattle.h4_frames.specs.declared.packet.HostPacket.TheVariants.{Command as HostCommand, Acl}
use Rattle.h4_frames.specs.declared.packet.Fed.{Fed}
use Rattle.h4_frames.specs.declared.packet.Fed.TheVariants.{More, Packet, LostSync}
use Rattle.hci_cmd.specs.Command.{command_of}
use Rattle.hci_cmd.specs.declared.command.Command.{Command}
use Rattle.hci_cmd.specs.declared.command.Command.TheVariants.{Reset}
use Rattle.hci_cmd.specs.declared.command.CmdRead.{CmdRead}
use Rattle.hci_cmd.specs.declared.command.CmdRead.TheVariants.{Known, UnknownOpcode, BadLength}
use Rattle.hci_evt.specs.Event.{mask_bit_of, written}
use Rattle.hci_evt.specs.declared.event.Event.{Event}
use Rattle.hci_evt.specs.declared.event.Event.TheVariants.{BufferOverflow, CompletedPackets, HardwareError}
use Rattle.host_view.specs.Noted.{is_acl_data, two_octets}
use Rattle.host_view.specs.Status.{status_of}
use Rattle.host_view.specs.View.{View}
use Rattle.journal_acks.specs.open_links.Data.{completed_from}
use Rattle.journal_acks.specs.open_links.declared.offers.Offer.{Offer}
use Rattle.journal_acks.specs.open_links.declared.offers.Offer.TheVariants.{NoLink, Empty, Overflow, Kept}
use Rattle.journal_acks.specs.open_links.OpenLinks.{handles_from}
use Rattle.wire_fields.specs.Field.{little_endian}
use Rattle.journal_acks.specs.controller_model.Answers.{answer_to}
use Rattle.journal_acks.specs.controller_model.Commands.{events_caused, notes_commanded, notes_known}
use Rattle.journal_acks.specs.controller_model.link_commands.LinksCommanded.{events_commanded_on}
use Rattle.journal_acks.proofs.controller_model.Asked.{noted_asking, notes_at_once}
use Rattle.journal_acks.specs.controller_model.Data.{notes_offered, offer_of, event_completed, note_received, facts_handed, notes_handed, notes_pieces, pieces_handed}
use Rattle.journal_acks.specs.controller_model.Events.{notes_of_events, passes}
use Rattle.journal_acks.specs.controller_model.Facts.{Facts, Setup}
use Rattle.journal_acks.specs.controller_model.Links.{note_shut, notes_reset, notes_leaving}
use Rattle.journal_acks.specs.controller_model.Notes.{is_event}
use Rattle.journal_acks.specs.controller_model.Side.{facts_of, notes_after, notes_fed, result_of}
use Rattle.journal_acks.specs.controller_model.Heard.{facts_with_words}
use Rattle.journal_acks.specs.controller_model.Step.{Step, HostOctet, TurnBegins, PacketHeard, NothingHeard, TurnEnds}
use Rattle.journal_acks.proofs.controller_model.Phases.{heard_is, unheard_is}
use Rattle.journal_acks.proofs.controller_model.Always.{IsInTurn}
use Rattle.journal_acks.proofs.controller_model.Handing.{handed_are}
use Rattle.journal_acks.proofs.controller_model.Handles.{own_handles}
use Rattle.journal_acks.proofs.controller_model.TurnNotes.{EachNote, turn_noted}
use Rattle.journal_data.specs.Held.{IsOfOneHandle}
use Rattle.journal_data.proofs.PieceLengths.{AreShort, all_short, packet_length}
use Rattle.journal_data.proofs.Openness.{AreNot, NoReport, begun_reports, is_report, phase_reports, all_append, leaving_reports, link_reports}

-- a Number Of Completed Packets event is of one handle
abbrev pub NamesOneHandle : Note → Type 0
NamesOneHandle (Up packet) = is_event 0x13 packet.items ≡ true → IsOfOneHandle packet.items
NamesOneHandle note = ⊤

event_one : (event : Event) → NamesOneHandle (Up (record { items = written event }))
unfolding little_endian
event_one (CompletedPackets handle count) is = record { size = refl; whole = refl; one = refl }
event_one event is = absurd (let h : false ≡ true = is in absurd cc)

-- the length of an ACL packet is that of what follows
abbrev pub HasItsLength : Note → Type 0
HasItsLength (Up packet) = is_acl_data packet.items ≡ true → length packet.items ≡ 5 + two_octets 3 packet.items
HasItsLength note = ⊤

event_length : (event : Event) → HasItsLength (Up (record { items = written event }))
unfolding little_endian
event_length (CompletedPackets handle count) is = absurd (let h : false ≡ true = is in absurd cc)
event_length event is = absurd (let h : false ≡ true = is in absurd cc)

-- ---- events, and links that are shut

module _ (P : Note → Type 0) (of_event : (event : Event) → P (Up (record { items = written event }))) (of_shut : (handle : ℕ) → P (note_shut handle 0)) where
  both : (xs ys : List Note) → AllByRecursion P xs → AllByRecursion P ys → AllByRecursion P (xs ++ ys)
  both [] ys all more = more
  both (x ∷ xs) ys all more = (all.0, both xs ys all.1 more)

  of_packets : (events : List Event) → AllByRecursion P (map (λ event. Up (record { items = written event })) events)
  of_packets [] = tt
  of_packets (event ∷ events) = (of_event event, of_packets events)

  pub of_events : (view : View) (events : List Event) → AllByRecursion P (notes_of_events view events)
  of_events view events = of_packets (filter (λ event. passes view (mask_bit_of event)) events)

  of_shuts : (handles : List ℕ) → AllByRecursion P (map (λ handle. note_shut handle 0) handles)
  of_shuts [] = tt
  of_shuts (handle ∷ handles) = (of_shut handle, of_shuts handles)

  -- ---- an octet of the host

  of_accepted : (setup : Setup) (facts : Facts) (opcode : ℕ) (command : Command) → AllByRecursion P (notes_known true setup facts opcode command)
  of_accepted setup facts opcode Reset =
      let answer = notes_of_events facts.view (answer_to setup facts opcode (Known Reset)) in
      let caused = notes_of_events facts.view (events_caused facts Reset) in
      both (notes_reset facts ++ answer) caused
      (both (notes_reset facts) answer (of_shuts (handles_from 0 facts.links)) (of_events facts.view (answer_to setup facts opcode (Known Reset))))
      (of_events facts.view (events_caused facts Reset))
  of_accepted setup facts opcode other =
      let answer = notes_of_events facts.view (answer_to setup facts opcode (Known other)) in
      let caused = notes_of_events facts.view (events_caused facts other) in
      both answer caused (of_events facts.view (answer_to setup facts opcode (Known other))) (of_events facts.view (events_caused facts other))

  of_known : (accepted : Bool) (setup : Setup) (facts : Facts) (opcode : ℕ) (command : Command)
      → AllByRecursion P (notes_known accepted setup facts opcode command)
  of_known true setup facts opcode command = of_accepted setup facts opcode command
  of_known false setup facts opcode command = of_events facts.view (answer_to setup facts opcode (Known command))

  of_read : (setup : Setup) (facts : Facts) (opcode : ℕ) (read : CmdRead) → AllByRecursion P (notes_commanded setup facts opcode read)
  of_read setup facts opcode (Known command) =
      noted_asking setup facts command opcode (AllByRecursion P) (of_known (status_of facts.view command == 0) setup facts opcode command)
      (λ notes asks all. both notes (notes_at_once facts command) all (of_events facts.view (events_commanded_on command facts.links)))
  of_read setup facts opcode UnknownOpcode = of_events facts.view (answer_to setup facts opcode UnknownOpcode)
  of_read setup facts opcode BadLength = of_events facts.view (answer_to setup facts opcode BadLength)

  of_offered : (view : View) (offer : Offer) (handle : ℕ) → AllByRecursion P (notes_offered view offer handle)
  of_offered view NoLink handle = tt
  of_offered view Empty handle = of_events view (CompletedPackets handle 1 ∷ [])
  of_offered view Overflow handle = of_events view (BufferOverflow 1 ∷ [])
  of_offered view Kept handle = tt

  of_fed : (setup : Setup) (facts : Facts) (fed : Fed) → AllByRecursion P (notes_fed setup facts fed)
  of_fed setup facts (Packet (HostCommand opcode body)) = of_read setup facts opcode (command_of opcode body.items)
  of_fed setup facts (Packet (Acl handle start count body)) = of_offered facts.view (offer_of setup facts handle count) handle
  of_fed setup facts LostSync = of_events facts.view (HardwareError 0x01 ∷ [])
  of_fed setup facts More = tt

-- ---- each step

each_one : (most : ℕ) → EachNote most NamesOneHandle
each_one most = record {
  up = λ event of. event_one event;
  received = λ piece is. absurd (let h : false ≡ true = is in absurd cc);
  opened = λ link below. tt;
  shut = λ handle reason below. tt;
  entered = λ handle event channel below. tt;
  applied = λ handle number event below. tt;
  began = λ handle kind below. tt;
  refused = λ handle kind code below. tt;
  done = λ handle kind below. tt;
  sent = λ handle number llid octets below. tt;
  took = λ handle number llid octets below. tt;
}

turn_one : (setup : Setup) (past : List Step) (step : Step) → IsInTurn step → AllByRecursion NamesOneHandle (notes_after setup (facts_of setup past) step)
turn_one setup past step turn =
    recursion_from_All NamesOneHandle (notes_after setup (facts_of setup past) step)
    (turn_noted setup.links NamesOneHandle (each_one setup.links) setup (facts_of setup past) step refl (own_handles setup past) turn)

pub step_one : (setup : Setup) (past : List Step) (step : Step) → AllByRecursion NamesOneHandle (notes_after setup (facts_of setup past) step)
step_one setup past (HostOctet octet) = of_fed NamesOneHandle event_one (λ handle. tt) setup (facts_of setup past) (result_of (facts_of setup past).octets octet)
step_one setup past (TurnBegins slot on) = turn_one setup past (TurnBegins slot on) tt
step_one setup past (PacketHeard octets) = turn_one setup past (PacketHeard octets) tt
step_one setup past NothingHeard = turn_one setup past NothingHeard tt
step_one setup past TurnEnds = turn_one setup past TurnEnds tt

-- ---- lengths

no_length : (notes : List Note) → AreNot is_report notes → AllByRecursion HasItsLength notes
no_length [] none = tt
no_length (note ∷ notes) none = (by note none.0, no_length notes none.1)
  where
    by : (note : Note) → is_report note ≡ false → HasItsLength note
    by (Up packet) none =
        λ acl. absurd (let h : true ≡ false = sym acl ∙ (or_parts (is_acl_data packet.items) (is_event 0x13 packet.items) none).0 in absurd cc)
    by note none = tt

of_pieces : (pieces : List (ℕ × Piece)) → AreShort pieces → AllByRecursion HasItsLength (map note_received pieces)
of_pieces [] short = tt
of_pieces (piece ∷ pieces) short = ((λ acl. packet_length piece short.0), of_pieces pieces short.1)

pub step_lengths : (setup : Setup) (past : List Step) (step : Step) → AllByRecursion HasItsLength (notes_after setup (facts_of setup past) step)
step_lengths setup past (HostOctet octet) =
    of_fed HasItsLength event_length (λ handle. tt) setup (facts_of setup past) (result_of (facts_of setup past).octets octet)
step_lengths setup past (TurnBegins slot on) =
    no_length (notes_after setup (facts_of setup past) (TurnBegins slot on)) (begun_reports (facts_of setup past) setup slot on)
step_lengths setup past (PacketHeard octets) =
    let facts = facts_of setup past in
    no_length (notes_after setup facts (PacketHeard octets)) (heard_is setup facts NoReport (phase_reports setup facts) facts.turn.doing octets refl
    (λ handle. link_reports setup octets handle (facts_with_words setup handle facts)))
step_lengths setup past NothingHeard =
    let facts = facts_of setup past in
    no_length (notes_after setup facts NothingHeard) (unheard_is setup facts NoReport (phase_reports setup facts) facts.turn.doing refl)
step_lengths setup past TurnEnds =
    let facts = facts_of setup past in
    let events = map event_completed (completed_from 0 facts.links) in
    all_append HasItsLength (notes_handed facts) (notes_leaving (facts_handed facts))
    (all_append HasItsLength (notes_pieces facts) (notes_of_events facts.view events)
    (of_pieces (pieces_handed facts)
    (handed_are (λ (piece : ℕ × Piece). length piece.1.body.items ≤ 255) facts.view facts.received (all_short setup past))) (of_events HasItsLength event_length (λ handle. tt) facts.view events))
    (no_length (notes_leaving (facts_handed facts)) (leaving_reports facts))
