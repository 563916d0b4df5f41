-- What a controller answers to what an octet of its host completes.
use Rattle.std.proofs.Common.{◌≡◌, ℕ, ◌%◌, ◌==◌, ◌||◌, Bool, true, false, Option, Some, None, List, [], ◌∷◌, ◌++◌, cond, length, refl, sym, ap, subst, ◌∙◌, append-nil}
use Rattle.std.specs.Prelude.{is_some}
use Rattle.std.specs.Option.{option_to_list}
use Rattle.arrayvec.specs.ArrayVec.{ArrayVec}
use Rattle.ble_base.specs.declared.notes.Note.{Note}
use Rattle.ble_base.specs.declared.procedure_kinds.Kind.{Kind}
use Rattle.ble_base.specs.declared.procedure_kinds.Kind.TheVariants.{Features, Version}
use Rattle.h4_frames.specs.declared.packet.HostPacket.TheVariants.{Command as HostCommand, Acl}
use Rattle.h4_frames.specs.declared.packet.Fed.{Fed}
use Rattle.h4_frames.specs.declared.packet.Fed.TheVariants.{More, Packet, LostSync}
use Rattle.hci_cmd.specs.declared.command.HandleCount.{HandleCount}
use Rattle.hci_cmd.specs.declared.command.Command.{Command}
use Rattle.hci_cmd.specs.declared.command.Command.TheVariants.{HostCompleted, LeReadRemoteFeatures, ReadRemoteVersion}
use Rattle.hci_cmd.specs.declared.command.CmdRead.{CmdRead}
use Rattle.hci_cmd.specs.declared.command.CmdRead.TheVariants.{Known, UnknownOpcode, BadLength}
use Rattle.hci_cmd.specs.Command.{command_of}
use Rattle.hci_evt.specs.declared.event.Event.TheVariants.{RemoteFeatures, RemoteVersion}
use Rattle.host_view.specs.View.{View}
use Rattle.host_view.specs.Status.{status_of}
use Rattle.run_model.specs.controller_model.link_model.declared.state.PeerFacts.{PeerFacts}
use Rattle.run_model.specs.controller_model.link_model.declared.state.PeerVersion.{PeerVersion}
use Rattle.run_model.specs.controller_model.open_links.OpenLinks.{Links, OpenLink, facts_in, link_at}
use Rattle.run_model.specs.controller_model.Answers.{accepted_answer, complete_answer, has_status_answer, is_host_completed, refused_fields, returned, status_answer}
use Rattle.run_model.specs.controller_model.Commands.{is_asking, notes_asking, notes_commanded, notes_known}
use Rattle.run_model.specs.controller_model.Data.{offer_of}
use Rattle.run_model.specs.controller_model.Events.{notes_of_events}
use Rattle.run_model.specs.controller_model.Facts.{Setup, Facts}
use Rattle.run_model.specs.controller_model.Host.{commands_accepted_by, commands_accepted_in}
use Rattle.run_model.specs.controller_model.Side.{notes_fed}
use Rattle.run_model.specs.controller_model.link_commands.LinksCommanded.{events_commanded_on, events_known_in}
use Rattle.run_model.specs.controller_model.link_commands.Views.{events_if, kind_if}
use Rattle.procedure_events.specs.Calls.{events_known}
use Rattle.procedure_events.specs.Events.{features_event, version_event}
use Rattle.run_model.proofs.controller_model.NoAnswers.{answer_alone, none_in_event, none_in_loss, none_of_offers}
use Rattle.host_answers.specs.Answered.{accepted_command, accepted_commands, command_read, is_left_out, status_unless}
use Rattle.host_answers.specs.Calls.{answered_commands}
use Rattle.host_answers.proofs.AnswerStatuses.{command_status, complete_status, reads_statuses, statuses_append, statuses_noted, statuses_of}
use Rattle.host_answers.proofs.Completed.{completed_by_opcode}
use Rattle.host_answers.proofs.StatusCodes.{one_octet}

-- these commands have these statuses in their answers, and these of them are accepted
pub record AreAnswered (reads : List CmdRead) (statuses : List ℕ) (commands : List Command) : Type 0 where
  pub lengths : length reads ≡ length statuses
  pub accepted : accepted_commands reads statuses ≡ commands

nothing_answered : AreAnswered [] [] []
nothing_answered = record { lengths = refl; accepted = refl }

abbrev reads_of : Bool → CmdRead → List CmdRead
reads_of left read = cond left [] (read ∷ [])

-- what is no command is not accepted
refused_answered : (left : Bool) (read : CmdRead) (status : ℕ) → accepted_command read status ≡ []
    → AreAnswered (reads_of left read) (status_unless left status) []
refused_answered true read status none = nothing_answered
refused_answered false read status none =
    record { lengths = refl; accepted = append-nil (accepted_command read status) ∙ none }

-- ---- the status in the answer to a command

-- it says whether the command was accepted
record SaysStatus (left took : Bool) (statuses : List ℕ) : Type 0 where
  status : ℕ
  are : statuses ≡ status_unless left status
  says : (status == 0) ≡ took

accepted_plain : (setup : Setup) (facts : Facts) (opcode : ℕ) (command : Command) → is_host_completed command ≡ false
    → accepted_answer setup facts opcode command ≡ complete_answer 0x00 opcode (returned setup facts command) ∷ []
accepted_plain setup facts opcode (HostCompleted counts) other = absurd cc
accepted_plain setup facts opcode other is = refl

says_by : (setup : Setup) (facts : Facts) (view : View) (opcode : ℕ) (command : Command) (status : ℕ) → is_host_completed command ≡ false
    → status % 256 ≡ status → (starts took : Bool) → (status == 0) ≡ took
    → SaysStatus (is_left_out opcode) took (statuses_of (notes_of_events view (cond starts (status_answer status opcode ∷ [])
    (cond took (accepted_answer setup facts opcode command) (complete_answer status opcode (refused_fields command) ∷ [])))))
says_by setup facts view opcode command status plain octet true took is = record {
  status = status;
  are = command_status view status opcode ∙ ap (status_unless (is_left_out opcode)) octet;
  says = is;
}
says_by setup facts view opcode command status plain octet false true is = record {
  status = 0;
  are = ap (λ events. statuses_of (notes_of_events view events)) (accepted_plain setup facts opcode command plain)
      ∙ complete_status view 0x00 opcode (returned setup facts command);
  says = refl;
}
says_by setup facts view opcode command status plain octet false false is = record {
  status = status;
  are = complete_status view status opcode (refused_fields command);
  says = is;
}

-- ---- the events that answer at once are no answers to commands

module _ (view : View) where
  version_none : (handle : ℕ) (version : Option PeerVersion)
      → statuses_of (notes_of_events view (option_to_list (version_event handle version))) ≡ []
  version_none handle None = refl
  version_none handle (Some known) = none_in_event ℕ statuses_noted reads_statuses view (RemoteVersion 0 handle known.version known.company known.sub) tt

  features_none : (handle : ℕ) (features : Option ℕ)
      → statuses_of (notes_of_events view (option_to_list (features_event handle features))) ≡ []
  features_none handle None = refl
  features_none handle (Some known) = none_in_event ℕ statuses_noted reads_statuses view (RemoteFeatures 0 handle known) tt

  kind_none : (known : Bool) (kind : Kind) (handle : ℕ) (peer : PeerFacts)
      → statuses_of (notes_of_events view (events_known handle peer kind)) ≡ []
      → statuses_of (notes_of_events view (events_if handle peer (kind_if known kind))) ≡ []
  kind_none true kind handle peer none = none
  kind_none false kind handle peer none = refl

  known_none : (command : Command) (handle : ℕ) (place : Option OpenLink)
      → statuses_of (notes_of_events view (events_known_in command handle place)) ≡ []
  known_none command handle None = refl
  known_none (ReadRemoteVersion given) handle (Some link) =
      let peer = (facts_in link).peer in
      kind_none (is_some peer.version) Version handle peer (version_none handle peer.version)
  known_none (LeReadRemoteFeatures given) handle (Some link) =
      let peer = (facts_in link).peer in
      kind_none (is_some peer.features) Features handle peer (features_none handle peer.features)
  known_none other handle (Some link) = refl

  commanded_none : (command : Command) (links : Links)
      → statuses_of (notes_of_events view (events_commanded_on command links)) ≡ []
  commanded_none (ReadRemoteVersion handle) links = known_none (ReadRemoteVersion handle) handle (link_at handle links)
  commanded_none (LeReadRemoteFeatures handle) links = known_none (LeReadRemoteFeatures handle) handle (link_at handle links)
  commanded_none other links = refl

asking_says : (asks : Bool) (facts : Facts) (command : Command) (notes : List Note)
    → statuses_of (notes_asking asks facts command notes) ≡ statuses_of notes
asking_says false facts command notes = refl
asking_says true facts command notes =
    let events = notes_of_events facts.view (events_commanded_on command facts.links) in
    statuses_append notes events
    ∙ ap (λ xs. statuses_of notes ++ xs) (commanded_none facts.view command facts.links)
    ∙ append-nil (statuses_of notes)

-- ---- a command

module _ (setup : Setup) (facts : Facts) (opcode : ℕ) where
  abbrev took : Command → Bool
  took command = status_of facts.view command == 0

  abbrev statuses : Command → List ℕ
  statuses command = statuses_of (notes_known (took command) setup facts opcode command)

  says : (command : Command) → is_host_completed command ≡ false → SaysStatus (is_left_out opcode) (took command) (statuses command)
  says command plain =
      subst (SaysStatus (is_left_out opcode) (took command)) (sym (answer_alone ℕ statuses_noted reads_statuses (took command) setup facts opcode command))
      (says_by setup facts facts.view opcode command (status_of facts.view command) plain (one_octet facts.view command)
      ((status_of facts.view command == 1) || has_status_answer opcode) (took command) refl)

  -- one that is left out
  left_none : (counts : ArrayVec HandleCount) → is_left_out opcode ≡ true → statuses (HostCompleted counts) ≡ []
  left_none counts left =
      answer_alone ℕ statuses_noted reads_statuses (took (HostCompleted counts)) setup facts opcode (HostCompleted counts)
      ∙ by ((status_of facts.view (HostCompleted counts) == 1) || has_status_answer opcode) (took (HostCompleted counts))
    where
      status : ℕ
      status = status_of facts.view (HostCompleted counts)

      none : (s : ℕ) → status_unless (is_left_out opcode) s ≡ []
      none s = ap (λ b. status_unless b s) left

      by : (starts accepted : Bool) → statuses_of (notes_of_events facts.view (cond starts (status_answer status opcode ∷ [])
          (cond accepted (accepted_answer setup facts opcode (HostCompleted counts)) (complete_answer status opcode (refused_fields (HostCompleted counts)) ∷ [])))) ≡ []
      by true accepted = command_status facts.view status opcode ∙ none (status % 256)
      by false true = refl
      by false false = complete_status facts.view status opcode (refused_fields (HostCompleted counts)) ∙ none status

  no_answer : (accepted : Bool) (counts : ArrayVec HandleCount) → answered_commands (cond accepted (HostCompleted counts ∷ []) []) ≡ []
  no_answer true counts = refl
  no_answer false counts = refl

  accepted_is : (accepted : Bool) (command : Command) → is_host_completed command ≡ false
      → cond accepted (command ∷ []) [] ++ [] ≡ answered_commands (cond accepted (command ∷ []) [])
  accepted_is true (HostCompleted counts) other = absurd cc
  accepted_is true command other = refl
  accepted_is false command other = refl

  abbrev Answers : Command → Type 0
  Answers command =
      AreAnswered (reads_of (is_left_out opcode) (Known command)) (statuses command) (answered_commands (commands_accepted_by facts (Known command)))

  other_answered : (command : Command) → is_host_completed command ≡ false → is_left_out opcode ≡ false → Answers command
  other_answered command other kept =
      let said = says command other in
      let are : statuses command ≡ said.status ∷ [] = said.are ∙ ap (λ b. status_unless b said.status) kept in
      subst (λ b. AreAnswered (reads_of b (Known command)) (statuses command) (answered_commands (commands_accepted_by facts (Known command)))) (sym kept)
      (subst (λ xs. AreAnswered (Known command ∷ []) xs (answered_commands (commands_accepted_by facts (Known command)))) (sym are) (record {
        lengths = refl;
        accepted = ap (λ b. cond b (command ∷ []) [] ++ []) said.says ∙ accepted_is (took command) command other;
      }))

  known_answered : (command : Command) → is_host_completed command ≡ is_left_out opcode → Answers command
  known_answered (HostCompleted counts) left =
      subst (λ b. AreAnswered (reads_of b (Known (HostCompleted counts))) (statuses (HostCompleted counts))
      (answered_commands (commands_accepted_by facts (Known (HostCompleted counts))))) left
      (subst (λ xs. AreAnswered [] xs (answered_commands (commands_accepted_by facts (Known (HostCompleted counts))))) (sym (left_none counts (sym left)))
      (record { lengths = refl; accepted = sym (no_answer (took (HostCompleted counts)) counts) }))
  known_answered other left = other_answered other refl (sym left)

  read_answered : (read : CmdRead) → ((command : Command) → read ≡ Known command → is_host_completed command ≡ is_left_out opcode)
      → AreAnswered (reads_of (is_left_out opcode) read) (statuses_of (notes_commanded setup facts opcode read)) (answered_commands (commands_accepted_by facts read))
  read_answered (Known command) fits =
      subst (λ xs. AreAnswered (reads_of (is_left_out opcode) (Known command)) xs (answered_commands (commands_accepted_by facts (Known command))))
      (sym (asking_says (is_asking facts.view command) facts command (notes_known (took command) setup facts opcode command)))
      (known_answered command (fits command refl))
  read_answered UnknownOpcode fits =
      subst (λ xs. AreAnswered (reads_of (is_left_out opcode) UnknownOpcode) xs []) (sym (command_status facts.view 0x01 opcode))
      (refused_answered (is_left_out opcode) UnknownOpcode (0x01 % 256) refl)
  read_answered BadLength fits = by (has_status_answer opcode)
    where
      by : (starts : Bool) → AreAnswered (reads_of (is_left_out opcode) BadLength)
          (statuses_of (notes_of_events facts.view (cond starts (status_answer 0x12 opcode) (complete_answer 0x12 opcode []) ∷ []))) []
      by true =
          subst (λ xs. AreAnswered (reads_of (is_left_out opcode) BadLength) xs []) (sym (command_status facts.view 0x12 opcode))
          (refused_answered (is_left_out opcode) BadLength (0x12 % 256) refl)
      by false =
          subst (λ xs. AreAnswered (reads_of (is_left_out opcode) BadLength) xs []) (sym (complete_status facts.view 0x12 opcode []))
          (refused_answered (is_left_out opcode) BadLength 0x12 refl)

-- ---- what an octet of the host completes

pub fed_answered : (setup : Setup) (facts : Facts) (fed : Fed)
    → AreAnswered (command_read fed) (statuses_of (notes_fed setup facts fed)) (answered_commands (commands_accepted_in facts fed))
fed_answered setup facts (Packet (HostCommand opcode body)) =
    read_answered setup facts opcode (command_of opcode body.items) (λ command is. completed_by_opcode opcode body.items command is)
fed_answered setup facts (Packet (Acl handle start count body)) =
    subst (λ xs. AreAnswered [] xs []) (sym (none_of_offers ℕ statuses_noted reads_statuses facts.view (offer_of setup facts handle count) handle)) nothing_answered
fed_answered setup facts LostSync = subst (λ xs. AreAnswered [] xs []) (sym (none_in_loss ℕ statuses_noted reads_statuses facts.view)) nothing_answered
fed_answered setup facts More = nothing_answered
