-- A call in which a command draws words has one line, which is its answer. Any other command asks the same whichever words
-- would be drawn.
use Rattle.std.proofs.Common.{◌≡◌, ℕ, ◌==◌, ◌&&◌, ◌||◌, ◌⊎◌, inl, inr, Bool, true, false, List, [], ◌∷◌, ◌++◌, cond, if◌then◌else◌, refl, ap}
use Rattle.std.specs.Prelude.{Some, None, map, reverse}
use Rattle.std.specs.List.{AllByRecursion}
use Rattle.ble_base.specs.declared.notes.Note.{Note}
use Rattle.ble_base.specs.declared.roles.Role.{Role}
use Rattle.h4_frames.specs.declared.packet.HostPacket.TheVariants.{Command as HostCommand, Acl}
use Rattle.h4_frames.specs.declared.packet.Fed.{Fed}
use Rattle.h4_frames.specs.declared.packet.Fed.TheVariants.{More, Packet, LostSync}
use Rattle.hci_cmd.specs.declared.command.Command.{Command}
use Rattle.hci_cmd.specs.declared.command.Command.TheVariants.{Disconnect, HostCompleted, LeEnableEncryption, LeKeyNegative, LeKeyReply}
use Rattle.hci_cmd.specs.declared.command.CmdRead.{CmdRead}
use Rattle.hci_cmd.specs.declared.command.CmdRead.TheVariants.{Known, UnknownOpcode, BadLength}
use Rattle.hci_cmd.specs.Command.{command_of}
use Rattle.host_view.specs.OnLinks.{asks_links}
use Rattle.host_view.specs.Status.{status_of}
use Rattle.host_view.specs.View.{View}
use Rattle.host_answers.specs.Calls.{answered_after, answered_commands, call_lines}
use Rattle.journal.specs.declared.entries.Entry.{Entry}
use Rattle.journal_acks.specs.controller_model.Answers.{answer_with, complete_answer, has_status_answer, returned, status_answer}
use Rattle.journal_acks.specs.controller_model.Commands.{notes_asking, notes_commanded, notes_known}
use Rattle.journal_acks.specs.controller_model.Events.{notes_of_events}
use Rattle.journal_acks.specs.controller_model.Facts.{Setup, Facts}
use Rattle.journal_acks.specs.controller_model.Host.{commands_accepted_by, commands_accepted_in}
use Rattle.journal_acks.specs.controller_model.Side.{notes_after, notes_fed, result_of}
use Rattle.journal_acks.specs.controller_model.Step.{HostOctet}
use Rattle.journal_acks.specs.controller_model.link_commands.declared.moments.Moment.{Moment}
use Rattle.journal_acks.specs.controller_model.link_commands.Commands.{is_about, step_if_about, step_on}
use Rattle.journal_acks.specs.link_model.Step.{Disconnected, KeyAnswered}
use Rattle.journal_acks.specs.link_model.declared.state.PeerFacts.{PeerFacts}
use Rattle.journal_acks.specs.run_model.History.{Event as RunEvent, Noted}
use Rattle.journal_acks.specs.run_model.Journal.{journal_from}
use Rattle.journal_acks.specs.run_model.Links.{Links, links_of}
use Rattle.journal_acks.specs.run_model.Run.{Given, facts_at, setup_at}

-- ---- the words are not looked at

abbrev pub IsWordless : Command → Type 0
IsWordless command =
    (handle : ℕ) (moment other : Moment) (role : Role) (peer : PeerFacts) → moment.slot ≡ other.slot → step_on handle command moment role peer ≡ step_on handle command other role peer

answered_wordless : (command : Command) → IsWordless command → AllByRecursion IsWordless (answered_commands (command ∷ []))
answered_wordless (HostCompleted counts) wordless = tt
answered_wordless other wordless = (wordless, tt)

taken_wordless : (took : Bool) (command : Command) → IsWordless command → AllByRecursion IsWordless (answered_commands (cond took (command ∷ []) []))
taken_wordless true command wordless = answered_wordless command wordless
taken_wordless false command wordless = tt

-- ---- one line

record HasOne {X : Type 0} (xs : List X) : Type 0 where
  one : X
  is : xs ≡ one ∷ []

pub record HasOneLine (lines : List Entry) : Type 0 where
  pub line : Entry
  pub is : lines ≡ line ∷ []

-- the answer to a command that is accepted, which no mask withholds
one_answer : (view : View) (starts zero : Bool) (status opcode code : ℕ) (fields more : List ℕ)
    → HasOne (notes_of_events view (if starts then status_answer status opcode ∷ [] else if zero then complete_answer 0x00 opcode fields ∷ [] else complete_answer code opcode more ∷ []))
one_answer view true zero status opcode code fields more = record { one = _; is = refl }
one_answer view false true status opcode code fields more = record { one = _; is = refl }
one_answer view false false status opcode code fields more = record { one = _; is = refl }

none_after : {X : Type 0} (xs : List X) → HasOne xs → HasOne ((xs ++ []) ++ [])
none_after xs has = record { one = has.one; is = ap (λ ys. (ys ++ []) ++ []) has.is }

one_note : (station : ℕ) (links : Links) (notes : List Note) → HasOne notes → HasOneLine (journal_from links (map (Noted station) notes))
one_note station links notes has = record { line = _; is = ap (λ xs. journal_from links (map (Noted station) xs)) has.is }

-- ---- what an octet completes

module _ (setup : Setup) (facts : Facts) where
  command_words : (opcode : ℕ) (command : Command) (took : Bool)
      → AllByRecursion IsWordless (answered_commands (cond took (command ∷ []) []))
      ⊎ HasOne (notes_asking (took && asks_links facts.view command) facts command (notes_known took setup facts opcode command))
  command_words opcode (LeEnableEncryption handle rand ediv key) true =
      let command = LeEnableEncryption handle rand ediv key in
      let status = status_of facts.view command in
      inr (none_after (notes_of_events facts.view (answer_with setup facts opcode command status))
      (one_answer facts.view ((status == 0x01) || has_status_answer opcode) (status == 0x00) status opcode status (returned setup facts command) []))
  command_words opcode (LeEnableEncryption handle rand ediv key) false = inl tt
  command_words opcode (Disconnect given reason) took =
      inl (taken_wordless took (Disconnect given reason) (λ handle moment other role peer same.
      ap (λ slot. step_if_about (is_about handle (Disconnect given reason)) (Some (Disconnected (record { 0 = reason }) slot))) same))
  command_words opcode (LeKeyReply given key) took =
      inl (taken_wordless took (LeKeyReply given key) (λ handle moment other role peer same.
      ap (λ slot. step_if_about (is_about handle (LeKeyReply given key)) (Some (KeyAnswered (Some (reverse key)) slot))) same))
  command_words opcode (LeKeyNegative given) took =
      inl (taken_wordless took (LeKeyNegative given) (λ handle moment other role peer same.
      ap (λ slot. step_if_about (is_about handle (LeKeyNegative given)) (Some (KeyAnswered None slot))) same))
  command_words opcode other took = inl (taken_wordless took other (λ handle moment late role peer same. refl))

  read_words : (opcode : ℕ) (read : CmdRead)
      → AllByRecursion IsWordless (answered_commands (commands_accepted_by facts read)) ⊎ HasOne (notes_commanded setup facts opcode read)
  read_words opcode (Known command) = command_words opcode command (status_of facts.view command == 0)
  read_words opcode UnknownOpcode = inl tt
  read_words opcode BadLength = inl tt

  fed_words : (fed : Fed) → AllByRecursion IsWordless (answered_commands (commands_accepted_in facts fed)) ⊎ HasOne (notes_fed setup facts fed)
  fed_words (Packet (HostCommand opcode body)) = read_words opcode (command_of opcode body.items)
  fed_words (Packet (Acl handle start count body)) = inl tt
  fed_words LostSync = inl tt
  fed_words More = inl tt

pub octet_words : (given : Given) (station octet : ℕ) (history : List RunEvent)
    → AllByRecursion IsWordless (answered_after (facts_at given station history) (HostOctet octet)) ⊎ HasOneLine (call_lines given station (HostOctet octet) history)
octet_words given station octet history =
    let setup = setup_at given station in
    let facts = facts_at given station history in by (fed_words setup facts (result_of facts.octets octet))
  where
    by : AllByRecursion IsWordless (answered_after (facts_at given station history) (HostOctet octet))
        ⊎ HasOne (notes_after (setup_at given station) (facts_at given station history) (HostOctet octet))
        → AllByRecursion IsWordless (answered_after (facts_at given station history) (HostOctet octet)) ⊎ HasOneLine (call_lines given station (HostOctet octet) history)
    by (inl wordless) = inl wordless
    by (inr one) = inr (one_note station (links_of history) (notes_after (setup_at given station) (facts_at given station history) (HostOctet octet)) one)
