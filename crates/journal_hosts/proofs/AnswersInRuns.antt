-- Each command of a host has its answer by the lines of a journal, since it has one by the calls on its controller.
use Rattle.std.proofs.Common.{◌≡◌, ℕ, ◌==◌, Bool, true, false, List, [], ◌∷◌, ◌++◌, refl, sym, ap, ◌∙◌}
use Rattle.std.specs.Prelude.{map, not, ◌&&◌, if◌then◌else◌}
use Rattle.std.specs.List.{AllByRecursion}
use Rattle.std.proofs.lemmas.Bool.{eqb-true}
use Rattle.std.proofs.lemmas.List.Elements.{All-from_recursion}
use Rattle.ble_base.specs.declared.roles.Side.{Side}
use Rattle.journal.specs.declared.entries.Entry.{Entry}
use Rattle.h4_frames.specs.declared.packet.Fed.{Fed}
use Rattle.h4_frames.specs.declared.packet.Fed.TheVariants.{More, Packet, LostSync}
use Rattle.h4_frames.specs.declared.packet.HostPacket.TheVariants.{Command as HostCommand, Acl}
use Rattle.hci_cmd.specs.declared.command.CmdRead.{CmdRead}
use Rattle.hci_cmd.specs.declared.command.CmdRead.TheVariants.{Known, UnknownOpcode, BadLength}
use Rattle.hci_cmd.specs.Command.{command_of}
use Rattle.host_view.specs.Status.{status_of}
use Rattle.journal_data.specs.controller_model.Answers.{is_host_completed}
use Rattle.journal_data.specs.controller_model.Facts.{Setup, Facts, first_facts}
use Rattle.journal_data.specs.controller_model.Host.{commands_after, commands_from, commands_in, commands_of, is_answered, opcodes_of, with_answer}
use Rattle.journal_data.specs.controller_model.Notes.{as_two_octets, one_further}
use Rattle.journal_data.specs.controller_model.Side.{facts_after, result_of}
use Rattle.journal_data.specs.controller_model.Step.{Step, HostOctet, TurnBegins, PacketHeard, NothingHeard, TurnEnds}
use Rattle.run_model.specs.Answered.{IsAnswered, commands_at}
use Rattle.run_model.specs.History.{past_of}
use Rattle.run_model.specs.Readers.{station_of}
use Rattle.run_model.specs.Run.{Given, setup_at}
use Rattle.journal_hosts.specs.Answered.{IsAnsweredBy}
use Rattle.host_answers.proofs.Completed.{completed_by_opcode}

-- ---- a command as two octets hold its opcode

abbrev held : ℕ × Bool → ℕ × Bool
held command = (as_two_octets command.0, command.1)

held_opcodes : (commands : List (ℕ × Bool)) → opcodes_of (map held commands) ≡ map as_two_octets (opcodes_of commands)
held_opcodes [] = refl
held_opcodes (command ∷ commands) = ap (λ opcodes. as_two_octets command.0 ∷ opcodes) (held_opcodes commands)

held_one : (answered : Bool) (opcode : ℕ) (held_rest rest : List (ℕ × Bool)) → held_rest ≡ map held rest
    → (if answered then (as_two_octets opcode, answered) ∷ held_rest else held_rest) ≡ map held (if answered then (opcode, answered) ∷ rest else rest)
held_one true opcode held_rest rest same = ap (λ more. (as_two_octets opcode, true) ∷ more) same
held_one false opcode held_rest rest same = same

held_answered : (commands : List (ℕ × Bool)) → with_answer (map held commands) ≡ map held (with_answer commands)
held_answered [] = refl
held_answered (command ∷ commands) = held_one command.1 command.0 (with_answer (map held commands)) (with_answer commands) (held_answered commands)

-- ---- which command has no answer

abbrev OnlyCompleted : ℕ × Bool → Type 0
OnlyCompleted command = command.1 ≡ false → as_two_octets command.0 ≡ 0x0C35

both_true : (a b : Bool) → not (a && b) ≡ false → a ≡ true
both_true true b is = refl
both_true false b is = absurd cc

read_only : (facts : Facts) (opcode : ℕ) (octets : List ℕ) (read : CmdRead) → command_of opcode octets ≡ read → is_answered facts read ≡ false → as_two_octets opcode ≡ 0x0C35
read_only facts opcode octets (Known command) is none =
    eqb-true (as_two_octets opcode) 0x0C35 (sym (completed_by_opcode opcode octets command is) ∙ both_true (is_host_completed command) (status_of facts.view command == 0) none)
read_only facts opcode octets UnknownOpcode is none = absurd cc
read_only facts opcode octets BadLength is none = absurd cc

fed_only : (facts : Facts) (fed : Fed) → AllByRecursion OnlyCompleted (commands_in facts fed)
fed_only facts (Packet (HostCommand opcode body)) = (read_only facts opcode body.items (command_of opcode body.items) refl, tt)
fed_only facts (Packet (Acl handle start count body)) = tt
fed_only facts LostSync = tt
fed_only facts More = tt

step_only : (facts : Facts) (step : Step) → AllByRecursion OnlyCompleted (commands_after facts step)
step_only facts (HostOctet octet) = fed_only facts (result_of facts.octets octet)
step_only facts (TurnBegins slot on) = tt
step_only facts (PacketHeard octets) = tt
step_only facts NothingHeard = tt
step_only facts TurnEnds = tt

all_append : (xs ys : List (ℕ × Bool)) → AllByRecursion OnlyCompleted xs → AllByRecursion OnlyCompleted ys → AllByRecursion OnlyCompleted (xs ++ ys)
all_append [] ys all also = also
all_append (x ∷ xs) ys all also = (all.0, all_append xs ys all.1 also)

past_only : (setup : Setup) (facts : Facts) (past : List Step) → AllByRecursion OnlyCompleted (commands_from setup facts past)
past_only setup facts [] = tt
past_only setup facts (step ∷ past) =
    all_append (commands_after facts step) (commands_from setup (facts_after setup facts step) past) (step_only facts step)
    (past_only setup (facts_after setup facts step) past)

commands_only : (setup : Setup) (past : List Step) → AllByRecursion OnlyCompleted (commands_of setup past)
unfolding commands_of
commands_only setup past = past_only setup (first_facts setup) past

held_only : (commands : List (ℕ × Bool)) → AllByRecursion OnlyCompleted commands
    → AllByRecursion (λ (one : ℕ × Bool). one.1 ≡ false → one.0 ≡ 0x0C35) (map held commands)
held_only [] all = tt
held_only (command ∷ commands) all = (all.0, held_only commands all.1)

-- ---- by the lines

pub lines_answered : (given : Given) (journal : List Entry) (side : Side) → IsAnswered given journal side → IsAnsweredBy journal side
lines_answered given journal side answered =
    let commands = commands_at given side answered.history in
    record {
      marked = map held commands;
      commands_are = held_opcodes commands ∙ ap (map as_two_octets) answered.commands_are;
      unanswered = All-from_recursion (λ (one : ℕ × Bool). one.1 ≡ false → one.0 ≡ 0x0C35) (map held commands)
          (held_only commands (commands_only (setup_at given (station_of side)) (past_of (station_of side) answered.history)));
      answers_are = answered.each_once
          ∙ ap (map one_further) (sym (held_opcodes (with_answer commands)) ∙ ap opcodes_of (sym (held_answered commands)));
    }
