-- What is noted as well as answers says nothing to a reader of answers.
use Rattle.std.proofs.Common.{◌≡◌, ℕ, Bool, true, false, List, [], ◌∷◌, ◌++◌, ◌==◌, map, cond, refl, ap, ◌∙◌, append-nil}
use Rattle.std.specs.Prelude.{All, flat_map, ⊤}
use Rattle.std.proofs.lemmas.List.Concat.{flat_map-append}
use Rattle.std.proofs.lemmas.List.Elements.{All-head, All-tail}
use Rattle.acl_banks.specs.declared.pieces.Piece.{Piece}
use Rattle.ble_base.specs.declared.notes.Note.{Note}
use Rattle.ble_base.specs.declared.notes.Note.TheVariants.{Up}
use Rattle.hci_cmd.specs.declared.command.Command.{Command}
use Rattle.hci_cmd.specs.declared.command.Command.TheVariants.{LeCreateCancel, Reset}
use Rattle.hci_cmd.specs.declared.command.CmdRead.TheVariants.{Known}
use Rattle.hci_evt.specs.Event.{mask_bit_of, written}
use Rattle.hci_evt.specs.declared.event.Event.{Event}
use Rattle.hci_evt.specs.declared.event.Event.TheVariants.{DisconnectionComplete, CommandComplete, CommandStatus, HardwareError, CompletedPackets, BufferOverflow}
use Rattle.host_view.specs.Status.{status_of}
use Rattle.host_view.specs.View.{View}
use Rattle.link_commands.specs.open_links.OpenLinks.{handles_from}
use Rattle.link_commands.specs.open_links.declared.offers.Offer.{Offer}
use Rattle.link_commands.specs.open_links.declared.offers.Offer.TheVariants.{NoLink, Empty, Overflow, Kept}
use Rattle.link_commands.specs.LinksCommanded.{events_commanded_on}
use Rattle.controller_model.specs.Step.{Step}
use Rattle.controller_model.specs.Facts.{Setup, Facts}
use Rattle.controller_model.specs.Answers.{answer_to}
use Rattle.controller_model.specs.Commands.{events_caused, notes_before, notes_commanded, notes_known}
use Rattle.controller_model.specs.Data.{note_received, notes_offered}
use Rattle.controller_model.specs.Events.{notes_of_events, passes}
use Rattle.controller_model.specs.Links.{connection_failed, note_shut, wants_enhanced}
use Rattle.controller_model.specs.Side.{notes_after}
use Rattle.controller_model.proofs.Asked.{events_at_once_are, noted_asking, notes_at_once}
use Rattle.controller_model.proofs.LinkNotes.{procedures_too}
use Rattle.controller_model.proofs.ProcedureEvents.{IsOfProcedure}
use Rattle.controller_model.proofs.Always.{IsInTurn}
use Rattle.controller_model.proofs.Handles.{HaveOwnHandles}
use Rattle.controller_model.proofs.TurnNotes.{EachNote, IsOfTurn, turn_noted}

abbrev pub IsNoAnswer : Event → Type 0
IsNoAnswer (CommandComplete number opcode fields) = ⊥
IsNoAnswer (CommandStatus status number opcode) = ⊥
IsNoAnswer other = ⊤

abbrev pub IsNoPacket : Note → Type 0
IsNoPacket (Up packet) = ⊥
IsNoPacket other = ⊤

-- all that it reads is in answers
pub record ReadsAnswers (A : Type 0) (noted : Note → List A) : Type 0 where
  pub event : (event : Event) → IsNoAnswer event → noted (Up (record { items = written event })) ≡ []
  pub received : (piece : ℕ × Piece) → noted (note_received piece) ≡ []
  pub other : (note : Note) → IsNoPacket note → noted note ≡ []

of_turn : (event : Event) → IsOfTurn event → IsNoAnswer event
of_turn (CommandComplete number opcode fields) is = absurd is
of_turn (CommandStatus status number opcode) is = absurd is
of_turn (DisconnectionComplete status handle reason) is = tt
of_turn other is = tt

of_procedure : (event : Event) → IsOfProcedure event → IsNoAnswer event
of_procedure (CommandComplete number opcode fields) is = absurd is
of_procedure (CommandStatus status number opcode) is = absurd is
of_procedure other is = tt

failed_is : (enhanced : Bool) (status : ℕ) → IsNoAnswer (connection_failed enhanced status)
failed_is true status = tt
failed_is false status = tt

module _ (A : Type 0) (noted : Note → List A) (reads : ReadsAnswers A noted) where
  none_among : (notes : List Note) → All (λ (note : Note). noted note ≡ []) notes → flat_map noted notes ≡ []
  none_among [] are = refl
  none_among (note ∷ notes) are =
      λ i. All-head (λ (note : Note). noted note ≡ []) note notes are i
      ++ none_among notes (All-tail (λ (note : Note). noted note ≡ []) note notes are) i

  each_silent : (most : ℕ) → EachNote most (λ note. noted note ≡ [])
  each_silent most = record {
    up = λ event is. reads.event event (of_turn event is);
    received = reads.received;
    opened = λ link below. reads.other _ tt;
    shut = λ handle reason below. reads.other _ tt;
    entered = λ handle event channel below. reads.other _ tt;
    applied = λ handle number event below. reads.other _ tt;
    began = λ handle kind below. reads.other _ tt;
    refused = λ handle kind code below. reads.other _ tt;
    done = λ handle kind below. reads.other _ tt;
    sent = λ handle number llid octets below. reads.other _ tt;
    took = λ handle number llid octets below. reads.other _ tt;
  }

  -- a turn
  pub none_in_turn : (setup : Setup) (facts : Facts) (step : Step) → HaveOwnHandles setup facts → IsInTurn step
      → flat_map noted (notes_after setup facts step) ≡ []
  none_in_turn setup facts step own turn =
      none_among (notes_after setup facts step)
      (turn_noted setup.links (λ note. noted note ≡ []) (each_silent setup.links) setup facts step refl own turn)

  -- what comes before the answer to a command
  none_shut : (handles : List ℕ) → flat_map noted (map (λ handle. note_shut handle 0) handles) ≡ []
  none_shut [] = refl
  none_shut (handle ∷ handles) = λ i. reads.other (note_shut handle 0) tt i ++ none_shut handles i

  none_before : (facts : Facts) (command : Command) → flat_map noted (notes_before facts command) ≡ []
  none_before facts Reset = none_shut (handles_from 0 facts.links)
  none_before facts other = refl

  -- an event that the masks let through, or do not
  none_masked : (passed : Bool) (event : Event) → IsNoAnswer event
      → flat_map noted (map (λ event. Up (record { items = written event })) (cond passed (event ∷ []) [])) ≡ []
  none_masked true event is = ap (λ (xs : List A). xs ++ []) (reads.event event is)
  none_masked false event is = refl

  pub none_in_event : (view : View) (event : Event) → IsNoAnswer event → flat_map noted (notes_of_events view (event ∷ [])) ≡ []
  none_in_event view event is = none_masked (passes view (mask_bit_of event)) event is

  none_caused : (facts : Facts) (command : Command) → flat_map noted (notes_of_events facts.view (events_caused facts command)) ≡ []
  none_caused facts LeCreateCancel =
      none_in_event facts.view (connection_failed (wants_enhanced facts.view) 0x02) (failed_is (wants_enhanced facts.view) 0x02)
  none_caused facts other = refl

  -- what a command notes is read as its answer alone
  pub answer_alone : (accepted : Bool) (setup : Setup) (facts : Facts) (opcode : ℕ) (command : Command)
      → flat_map noted (notes_known accepted setup facts opcode command)
      ≡ flat_map noted (notes_of_events facts.view (answer_to setup facts opcode (Known command)))
  answer_alone false setup facts opcode command = refl
  answer_alone true setup facts opcode command =
      let answer = notes_of_events facts.view (answer_to setup facts opcode (Known command)) in
      let caused = notes_of_events facts.view (events_caused facts command) in
      flat_map-append noted (notes_before facts command ++ answer) caused
      ∙ (λ i. flat_map-append noted (notes_before facts command) answer i ++ none_caused facts command i)
      ∙ (λ i. (none_before facts command i ++ flat_map noted answer) ++ [])
      ∙ append-nil (flat_map noted answer)

  -- with what is answered at once
  pub answer_commanded : (setup : Setup) (facts : Facts) (opcode : ℕ) (command : Command)
      → flat_map noted (notes_commanded setup facts opcode (Known command))
      ≡ flat_map noted (notes_of_events facts.view (answer_to setup facts opcode (Known command)))
  answer_commanded setup facts opcode command =
      let answer = flat_map noted (notes_of_events facts.view (answer_to setup facts opcode (Known command))) in
      noted_asking setup facts command opcode (λ (notes : List Note). flat_map noted notes ≡ answer)
      (answer_alone (status_of facts.view command == 0) setup facts opcode command)
      (λ notes asks is.
      flat_map-append noted notes (notes_at_once facts command)
      ∙ ap (λ rest. flat_map noted notes ++ rest)
      (none_among (notes_at_once facts command)
      (procedures_too (λ (note : Note). noted note ≡ []) (λ event is. reads.event event (of_procedure event is)) facts.view
      (events_commanded_on command facts.links) (events_at_once_are command facts.links)))
      ∙ append-nil (flat_map noted notes) ∙ is)

  -- a packet of data
  pub none_of_offers : (view : View) (offer : Offer) (handle : ℕ) → flat_map noted (notes_offered view offer handle) ≡ []
  none_of_offers view NoLink handle = refl
  none_of_offers view Empty handle = none_in_event view (CompletedPackets handle 1) tt
  none_of_offers view Overflow handle = none_in_event view (BufferOverflow 1) tt
  none_of_offers view Kept handle = refl

  -- octets that are no packet
  pub none_in_loss : (view : View) → flat_map noted (notes_of_events view (HardwareError 0x01 ∷ [])) ≡ []
  none_in_loss view = none_in_event view (HardwareError 0x01) tt
