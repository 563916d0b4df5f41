-- A fact of each note of a step, where all packets to the host have it.
use Rattle.std.proofs.Common.{◌≡◌, ℕ, ◌==◌, Bool, true, false, List, [], ◌∷◌, ◌++◌, length, map, refl, arith}
use Rattle.std.specs.Prelude.{All, filter}
use Rattle.std.proofs.lemmas.List.Elements.{All-append, All-cons, All-nil}
use Rattle.ble_base.specs.declared.notes.Note.{Note}
use Rattle.ble_base.specs.declared.notes.Note.TheVariants.{Up}
use Rattle.h4_frames.specs.declared.packet.HostPacket.TheVariants.{Command as HostCommand, Acl}
use Rattle.h4_frames.specs.declared.packet.Fed.{Fed}
use Rattle.h4_frames.specs.declared.packet.Fed.TheVariants.{More, Packet, LostSync}
use Rattle.hci_cmd.specs.declared.command.Command.{Command}
use Rattle.hci_cmd.specs.declared.command.Command.TheVariants.{Reset}
use Rattle.hci_cmd.specs.declared.command.CmdRead.{CmdRead}
use Rattle.hci_cmd.specs.declared.command.CmdRead.TheVariants.{Known, UnknownOpcode, BadLength}
use Rattle.hci_cmd.specs.Command.{command_of}
use Rattle.hci_evt.specs.declared.event.Event.{Event}
use Rattle.hci_evt.specs.declared.event.Event.TheVariants.{HardwareError, CompletedPackets, BufferOverflow}
use Rattle.hci_evt.specs.Event.{mask_bit_of, written}
use Rattle.host_view.specs.View.{View}
use Rattle.host_view.specs.Status.{status_of}
use Rattle.controller_model.specs.Step.{Step, HostOctet, TurnBegins, PacketHeard, NothingHeard, TurnEnds}
use Rattle.controller_model.specs.Facts.{Setup, Facts}
use Rattle.controller_model.specs.Answers.{answer_to}
use Rattle.link_commands.specs.LinksCommanded.{events_commanded_on}
use Rattle.controller_model.specs.Commands.{events_caused, notes_before, notes_commanded, notes_known}
use Rattle.link_commands.specs.open_links.declared.offers.Offer.{Offer}
use Rattle.link_commands.specs.open_links.declared.offers.Offer.TheVariants.{NoLink, Empty, Overflow, Kept}
use Rattle.controller_model.specs.Data.{notes_offered, offer_of}
use Rattle.controller_model.specs.Events.{notes_of_events, passes}
use Rattle.controller_model.specs.Side.{notes_after, notes_fed, result_of}
use Rattle.controller_model.proofs.Handles.{HaveOwnHandles}
use Rattle.controller_model.proofs.TurnNotes.{EachNote, shut_noted, turn_noted}
use Rattle.controller_model.proofs.Asked.{noted_asking, notes_at_once}

module _ (setup : Setup) (P : Note → Type 0) (each : EachNote setup.links P) (any : (event : Event) → P (Up (record { items = written event }))) where
  -- ---- a packet of the host

  packets : (events : List Event) → All P (map (λ event. Up (record { items = written event })) events)
  packets [] = All-nil P
  packets (event ∷ events) = All-cons P _ _ (any event) (packets events)

  events_noted : (view : View) (events : List Event) → All P (notes_of_events view events)
  events_noted view events = packets (filter (λ event. passes view (mask_bit_of event)) events)

  before_noted : (facts : Facts) (command : Command) → length facts.links ≡ setup.links
      → All P (notes_before facts command)
  before_noted facts Reset many =
      shut_noted setup.links P each 0 facts.links (omega arith)
  before_noted facts other many = All-nil P

  known_noted : (accepted : Bool) (facts : Facts) (opcode : ℕ) (command : Command) → length facts.links ≡ setup.links
      → All P (notes_known accepted setup facts opcode command)
  known_noted false facts opcode command many = events_noted facts.view (answer_to setup facts opcode (Known command))
  known_noted true facts opcode command many =
      let answer = notes_of_events facts.view (answer_to setup facts opcode (Known command)) in
      All-append P (notes_before facts command ++ answer) _
      (All-append P (notes_before facts command) answer (before_noted facts command many)
      (events_noted facts.view (answer_to setup facts opcode (Known command))))
      (events_noted facts.view (events_caused facts command))

  command_noted : (facts : Facts) (opcode : ℕ) (read : CmdRead) → length facts.links ≡ setup.links
      → All P (notes_commanded setup facts opcode read)
  command_noted facts opcode (Known command) many =
      noted_asking setup facts command opcode (All P) (known_noted (status_of facts.view command == 0) facts opcode command many)
      (λ notes asks are. All-append P notes (notes_at_once facts command) are (events_noted facts.view (events_commanded_on command facts.links)))
  command_noted facts opcode UnknownOpcode many = events_noted facts.view (answer_to setup facts opcode UnknownOpcode)
  command_noted facts opcode BadLength many = events_noted facts.view (answer_to setup facts opcode BadLength)

  offered_noted : (view : View) (offer : Offer) (handle : ℕ) → All P (notes_offered view offer handle)
  offered_noted view NoLink handle = All-nil P
  offered_noted view Empty handle = events_noted view (CompletedPackets handle 1 ∷ [])
  offered_noted view Overflow handle = events_noted view (BufferOverflow 1 ∷ [])
  offered_noted view Kept handle = All-nil P

  fed_noted : (facts : Facts) (fed : Fed) → length facts.links ≡ setup.links
      → All P (notes_fed setup facts fed)
  fed_noted facts (Packet (HostCommand opcode body)) many = command_noted facts opcode (command_of opcode body.items) many
  fed_noted facts (Packet (Acl handle start count body)) many =
      offered_noted facts.view (offer_of setup facts handle count) handle
  fed_noted facts LostSync many = events_noted facts.view (HardwareError 0x01 ∷ [])
  fed_noted facts More many = All-nil P

  pub step_noted : (facts : Facts) (step : Step) → HaveOwnHandles setup facts
      → All P (notes_after setup facts step)
  step_noted facts (HostOctet octet) own = fed_noted facts (result_of facts.octets octet) own.many
  step_noted facts (TurnBegins slot on) own = turn_noted setup.links P each setup facts (TurnBegins slot on) refl own tt
  step_noted facts (PacketHeard octets) own = turn_noted setup.links P each setup facts (PacketHeard octets) refl own tt
  step_noted facts NothingHeard own = turn_noted setup.links P each setup facts NothingHeard refl own tt
  step_noted facts TurnEnds own = turn_noted setup.links P each setup facts TurnEnds refl own tt
