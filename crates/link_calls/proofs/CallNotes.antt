-- What a controller notes in each kind of call, and in which of them no note says that a PDU is taken or a link opened.
use Rattle.std.proofs.Common.{◌≡◌, ℕ, ◌+◌, ◌==◌, Bool, true, false, Option, Some, None, List, [], ◌∷◌, ◌++◌, map, refl}
use Rattle.std.specs.Prelude.{flat_map, filter, All}
use Rattle.std.proofs.lemmas.List.Elements.{All-append, All-cons, All-from_recursion, All-head, All-nil, All-tail}
use Rattle.acl_banks.specs.declared.pieces.Piece.{Piece}
use Rattle.ble_base.specs.declared.notes.Note.{Note}
use Rattle.ble_base.specs.declared.notes.Note.TheVariants.{Up, Sent, Took, Applied, Began, Done, Enter}
use Rattle.ble_base.specs.declared.procedure_kinds.Kind.{Kind}
use Rattle.h4_frames.specs.declared.packet.HostPacket.TheVariants.{Command as HostCommand, Acl}
use Rattle.h4_frames.specs.declared.packet.Fed.{Fed}
use Rattle.h4_frames.specs.declared.packet.Fed.TheVariants.{More, Packet, LostSync}
use Rattle.hci_cmd.specs.declared.command.Command.{Command}
use Rattle.hci_cmd.specs.declared.command.Command.TheVariants.{Reset}
use Rattle.hci_cmd.specs.declared.command.CmdRead.{CmdRead}
use Rattle.hci_cmd.specs.declared.command.CmdRead.TheVariants.{Known, UnknownOpcode, BadLength}
use Rattle.hci_cmd.specs.Command.{command_of}
use Rattle.hci_evt.specs.declared.event.Event.{Event}
use Rattle.hci_evt.specs.declared.event.Event.TheVariants.{DisconnectionComplete, HardwareError, CompletedPackets, BufferOverflow}
use Rattle.hci_evt.specs.Event.{mask_bit_of, written}
use Rattle.run_laws.specs.host_view.View.{View}
use Rattle.run_laws.specs.host_view.Status.{status_of}
use Rattle.run_laws.specs.open_links.declared.ended.LinkEnded.{LinkEnded}
use Rattle.run_laws.specs.open_links.declared.offers.Offer.{Offer}
use Rattle.run_laws.specs.open_links.declared.offers.Offer.TheVariants.{NoLink, Empty, Overflow, Kept}
use Rattle.run_laws.specs.open_links.Data.{completed_from}
use Rattle.run_laws.specs.open_links.OpenLinks.{Links, OpenLink, facts_in, handles_from, link_at}
use Rattle.run_laws.specs.open_links.Turns.{due_in, ending_in, enters_in, notes_entering, notes_if}
use Rattle.run_laws.specs.controller_model.declared.doing.Doing.{Doing}
use Rattle.run_laws.specs.controller_model.declared.doing.Doing.TheVariants.{Advertises, CentralSends, PeripheralSends}
use Rattle.run_laws.specs.controller_model.Step.{HostOctet, TurnBegins, TurnEnds}
use Rattle.run_laws.specs.controller_model.Facts.{Setup, Facts}
use Rattle.run_laws.specs.controller_model.Answers.{answer_to}
use Rattle.run_laws.specs.controller_model.Commands.{events_caused, is_asking, notes_asking, notes_before, notes_commanded, notes_known}
use Rattle.run_laws.specs.controller_model.link_commands.LinksCommanded.{events_commanded_on}
use Rattle.run_laws.specs.controller_model.Data.{acl_packet, event_completed, facts_handed, note_received, notes_handed, notes_offered, offer_of, notes_pieces, pieces_handed}
use Rattle.run_laws.specs.controller_model.Entering.{events_entering, notes_all_entering}
use Rattle.run_laws.specs.controller_model.Events.{notes_of_events, passes}
use Rattle.run_laws.specs.controller_model.Links.{ends_for, facts_ending, note_shut, notes_ended, notes_ending, notes_leaving}
use Rattle.run_laws.specs.controller_model.Packets.{notes_doing, notes_sent}
use Rattle.run_laws.specs.controller_model.Radio.{outcome_begun}
use Rattle.run_laws.specs.controller_model.Side.{notes_after, notes_fed, result_of}
use Rattle.run_laws.proofs.controller_model.EndNotes.{entered_each, sent_each}
use Rattle.run_laws.proofs.run_model.OpenedNotes.{opens_under}

abbrev pub is_taking : Note → Bool
is_taking (Took handle number llid body) = true
is_taking other = false

abbrev pub is_sending : Note → Bool
is_sending (Sent handle number llid body) = true
is_sending other = false

abbrev pub TakesNone : Note → Type 0
TakesNone note = is_taking note ≡ false

abbrev pub SendsNone : Note → Type 0
SendsNone note = is_sending note ≡ false

-- a note of no PDU
pub record HasNoData (note : Note) : Type 0 where
  pub takes : TakesNone note
  pub sends : SendsNone note

pub all_more : (P Q : Note → Type 0) → ((note : Note) → P note → Q note) → (notes : List Note) → All P notes → All Q notes
all_more P Q more [] all = All-nil Q
all_more P Q more (note ∷ notes) all =
    All-cons Q note notes (more note (All-head P note notes all)) (all_more P Q more notes (All-tail P note notes all))

-- ---- a fact of all that is noted as a host sends

pub record IsOfFeeds (P : Note → Type 0) : Type 0 where
  pub up : (octets : List ℕ) → P (Up (record { items = octets }))
  pub shut : (handle reason : ℕ) → P (note_shut handle reason)

module _ (P : Note → Type 0) (of : IsOfFeeds P) where
  packets_noted : (events : List Event) → All P (map (λ event. Up (record { items = written event })) events)
  packets_noted [] = All-nil P
  packets_noted (event ∷ events) = All-cons P _ _ (of.up (written event)) (packets_noted events)

  pub events_noted : (view : View) (events : List Event) → All P (notes_of_events view events)
  events_noted view events = packets_noted (filter (λ event. passes view (mask_bit_of event)) events)

  handles_shut : (handles : List ℕ) → All P (map (λ handle. note_shut handle 0) handles)
  handles_shut [] = All-nil P
  handles_shut (handle ∷ handles) = All-cons P _ _ (of.shut handle 0) (handles_shut handles)

  before_noted : (facts : Facts) (command : Command) → All P (notes_before facts command)
  before_noted facts Reset = handles_shut (handles_from 0 facts.links)
  before_noted facts other = All-nil P

  known_noted : (accepted : Bool) (setup : Setup) (facts : Facts) (opcode : ℕ) (command : Command)
      → All P (notes_known accepted setup facts opcode command)
  known_noted false setup facts opcode command = events_noted facts.view (answer_to setup facts opcode (Known command))
  known_noted true setup facts opcode command =
      let answer = notes_of_events facts.view (answer_to setup facts opcode (Known command)) in
      All-append P (notes_before facts command ++ answer) _
      (All-append P (notes_before facts command) answer (before_noted facts command)
      (events_noted facts.view (answer_to setup facts opcode (Known command))))
      (events_noted facts.view (events_caused facts command))

  asking_noted : (asks : Bool) (facts : Facts) (command : Command) (notes : List Note) → All P notes → All P (notes_asking asks facts command notes)
  asking_noted true facts command notes all =
      All-append P notes _ all (events_noted facts.view (events_commanded_on command facts.links))
  asking_noted false facts command notes all = all

  read_noted : (setup : Setup) (facts : Facts) (opcode : ℕ) (read : CmdRead) → All P (notes_commanded setup facts opcode read)
  read_noted setup facts opcode (Known command) =
      asking_noted (is_asking facts.view command) facts command (notes_known (status_of facts.view command == 0) setup facts opcode command)
      (known_noted (status_of facts.view command == 0) setup facts opcode command)
  read_noted setup facts opcode UnknownOpcode = events_noted facts.view (answer_to setup facts opcode UnknownOpcode)
  read_noted setup facts opcode BadLength = events_noted facts.view (answer_to setup facts opcode BadLength)

  offered_noted : (view : View) (offer : Offer) (handle : ℕ) → All P (notes_offered view offer handle)
  offered_noted view NoLink handle = All-nil P
  offered_noted view Empty handle = events_noted view (CompletedPackets handle 1 ∷ [])
  offered_noted view Overflow handle = events_noted view (BufferOverflow 1 ∷ [])
  offered_noted view Kept handle = All-nil P

  fed_noted : (setup : Setup) (facts : Facts) (fed : Fed) → All P (notes_fed setup facts fed)
  fed_noted setup facts (Packet (HostCommand opcode body)) = read_noted setup facts opcode (command_of opcode body.items)
  fed_noted setup facts (Packet (Acl handle start count body)) = offered_noted facts.view (offer_of setup facts handle count) handle
  fed_noted setup facts LostSync = events_noted facts.view (HardwareError 0x01 ∷ [])
  fed_noted setup facts More = All-nil P

  ends_noted : (view : View) (ended : List LinkEnded) → All P (flat_map (notes_ended view) ended)
  ends_noted view [] = All-nil P
  ends_noted view (one ∷ ended) =
      All-append P (notes_ended view one) (flat_map (notes_ended view) ended)
      (All-cons P _ _ (of.shut one.handle one.reason.0) (events_noted view (DisconnectionComplete 0 one.handle one.reason.0 ∷ []))) (ends_noted view ended)

  pub octet_noted : (setup : Setup) (facts : Facts) (octet : ℕ) → All P (notes_after setup facts (HostOctet octet))
  octet_noted setup facts octet = fed_noted setup facts (result_of facts.octets octet)

  pub ending_noted : (slot : ℕ) (facts : Facts) → All P (notes_ending slot facts)
  ending_noted slot facts = ends_noted facts.view (ends_for (due_in slot) facts)

  -- as a turn ends
  pieces_noted : (pieces : List (ℕ × Piece)) → All P (map note_received pieces)
  pieces_noted [] = All-nil P
  pieces_noted (piece ∷ pieces) = All-cons P _ _ (of.up (acl_packet piece)) (pieces_noted pieces)

  handed_noted : (facts : Facts) → All P (notes_handed facts)
  handed_noted facts =
      All-append P (notes_pieces facts) _ (pieces_noted (pieces_handed facts))
      (events_noted facts.view (map event_completed (completed_from 0 facts.links)))

  pub end_noted : (setup : Setup) (facts : Facts) → All P (notes_after setup facts TurnEnds)
  end_noted setup facts =
      All-append P (notes_handed facts) (notes_leaving (facts_handed facts)) (handed_noted facts)
      (ends_noted (facts_handed facts).view (ends_for ending_in (facts_handed facts)))

-- ---- a fact of all that is noted as a turn begins

-- what is noted before a link is to send: the links that end, and the events that are entered
abbrev pub notes_starting : ℕ → Facts → List Note
notes_starting slot facts =
    notes_ending slot facts ++ notes_all_entering (facts_ending slot facts).view slot 0 (facts_ending slot facts).links

pub record IsOfStarts (P : Note → Type 0) : Type 0 where
  pub feeds : IsOfFeeds P
  pub applied : (handle number event : ℕ) → P (Applied handle number (record { 0 = event }))
  pub entered : (handle event channel : ℕ) → P (Enter handle (record { 0 = event }) channel)
  pub done : (handle : ℕ) (kind : Kind) → P (Done handle kind)
  pub began : (handle : ℕ) (kind : Kind) → P (Began handle kind)

pub record IsOfBegins (P : Note → Type 0) : Type 0 where
  pub starts : IsOfStarts P
  pub sent : (handle number llid : ℕ) (octets : List ℕ) → P (Sent handle number llid (record { items = octets }))

-- of all that is noted as a link is to send
module _ (P : Note → Type 0) (sent : (handle number llid : ℕ) (octets : List ℕ) → P (Sent handle number llid (record { items = octets }))) where
  sent_noted : (slot : ℕ) (found : Option OpenLink) → All P (notes_sent slot found)
  sent_noted slot None = All-nil P
  sent_noted slot (Some link) = All-from_recursion P _ (sent_each P link.setup (facts_in link) (sent link.setup.link.handle))

  pub doing_noted : (doing : Doing) (facts : Facts) → All P (notes_doing doing facts)
  doing_noted (CentralSends handle) facts = sent_noted facts.turn.slot (link_at handle facts.links)
  doing_noted (PeripheralSends handle) facts = sent_noted facts.turn.slot (link_at handle facts.links)
  doing_noted (Advertises channel) facts = All-nil P
  doing_noted other facts = All-nil P

-- of all that is noted before that
module _ (P : Note → Type 0) (of : IsOfStarts P) where
  pub entry_noted : (enters : Bool) (slot : ℕ) (link : OpenLink) → All P (notes_if enters slot link)
  entry_noted false slot link = All-nil P
  entry_noted true slot link =
      let handle = link.setup.link.handle in
      All-from_recursion P _
      (entered_each P link.setup slot (facts_in link) (record {
        applied = λ number. of.applied handle number _;
        enter = of.entered handle _ _;
        done = of.done handle;
        began = of.began handle;
      }))

  at_place : (slot : ℕ) (place : Option OpenLink) → All P (notes_entering slot place)
  at_place slot None = All-nil P
  at_place slot (Some link) = entry_noted (enters_in slot link) slot link

  entering_noted : (view : View) (slot handle : ℕ) (links : Links) → All P (notes_all_entering view slot handle links)
  entering_noted view slot handle [] = All-nil P
  entering_noted view slot handle (place ∷ links) =
      let events = notes_of_events view (events_entering slot handle place) in
      All-append P (notes_entering slot place ++ events) _
      (All-append P (notes_entering slot place) events (at_place slot place) (events_noted P of.feeds view (events_entering slot handle place)))
      (entering_noted view slot (handle + 1) links)

  pub start_noted : (slot : ℕ) (facts : Facts) → All P (notes_starting slot facts)
  start_noted slot facts =
      let ending = facts_ending slot facts in
      All-append P (notes_ending slot facts) (notes_all_entering ending.view slot 0 ending.links)
      (ending_noted P of.feeds slot facts) (entering_noted ending.view slot 0 ending.links)

pub begin_noted : (P : Note → Type 0) (of : IsOfBegins P) (setup : Setup) (slot : ℕ) (on : Bool) (facts : Facts)
    → All P (notes_after setup facts (TurnBegins slot on))
begin_noted P of setup slot on facts =
    All-append P (notes_starting slot facts) _ (start_noted P of.starts slot facts)
    (doing_noted P of.sent (outcome_begun slot on facts).next (outcome_begun slot on facts).facts)

-- ---- no PDU is taken as a turn begins, and a new one is sent last of all

pub none_taken : IsOfBegins TakesNone
none_taken = record {
  starts = record {
    feeds = record { up = λ octets. refl; shut = λ handle reason. refl };
    applied = λ handle number event. refl;
    entered = λ handle event channel. refl;
    done = λ handle kind. refl;
    began = λ handle kind. refl;
  };
  sent = λ handle number llid octets. refl;
}

pub no_data : IsOfStarts HasNoData
no_data = record {
  feeds = record { up = λ octets. record { takes = refl; sends = refl }; shut = λ handle reason. record { takes = refl; sends = refl } };
  applied = λ handle number event. record { takes = refl; sends = refl };
  entered = λ handle event channel. record { takes = refl; sends = refl };
  done = λ handle kind. record { takes = refl; sends = refl };
  began = λ handle kind. record { takes = refl; sends = refl };
}

-- ---- no link is opened as a host sends, or as a turn begins or ends

abbrev pub OpensNone : ℕ → Note → Type 0
OpensNone handle note = opens_under handle note ≡ false

pub opening_none : (handle : ℕ) → IsOfBegins (OpensNone handle)
opening_none handle = record {
  starts = record {
    feeds = record { up = λ octets. refl; shut = λ other reason. refl };
    applied = λ other number event. refl;
    entered = λ other event channel. refl;
    done = λ other kind. refl;
    began = λ other kind. refl;
  };
  sent = λ other number llid octets. refl;
}
