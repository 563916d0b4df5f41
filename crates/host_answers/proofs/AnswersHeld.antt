-- What a controller answered in all its calls.
use Rattle.std.proofs.Common.{◌≡◌, ℕ, suc, ◌+◌, List, [], ◌∷◌, ◌++◌, length, refl, sym, ap, subst, ◌∙◌, append-nil, append_assoc, arith}
use Rattle.std.specs.Prelude.{flat_map, fold}
use Rattle.std.proofs.lemmas.List.{length-append}
use Rattle.std.proofs.lemmas.List.Concat.{flat_map-append}
use Rattle.ble_base.specs.declared.notes.Note.{Note}
use Rattle.h4_frames.specs.Frames.{frames, frame_entry}
use Rattle.h4_frames.specs.declared.packet.Fed.{Fed}
use Rattle.h4_frames.specs.declared.packet.Fed.TheVariants.{More, Packet, LostSync}
use Rattle.hci_cmd.specs.declared.command.Command.{Command}
use Rattle.hci_cmd.specs.declared.command.CmdRead.{CmdRead}
use Rattle.run_model.specs.controller_model.Step.{Step, HostOctet, TurnBegins, PacketHeard, NothingHeard, TurnEnds}
use Rattle.run_model.specs.controller_model.Facts.{Setup, Facts, first_facts}
use Rattle.run_model.specs.controller_model.Host.{commands_accepted, commands_accepted_after, commands_accepted_from}
use Rattle.run_model.specs.controller_model.Side.{facts_after, facts_of, notes_after, notes_from, notes_of, result_of}
use Rattle.run_model.proofs.controller_model.Always.{IsInTurn, holds_step}
use Rattle.run_model.proofs.controller_model.Feds.{frames_more, more_octets, no_frames, turn_octets}
use Rattle.run_model.proofs.controller_model.Handles.{HaveOwnHandles, handles_kept, own_handles}
use Rattle.run_model.proofs.controller_model.NoAnswers.{none_in_turn}
use Rattle.host_answers.specs.Answered.{accepted_command, accepted_commands, command_read, commands_sent}
use Rattle.host_answers.specs.Calls.{answered_after, answered_command, answered_commands, answered_of}
use Rattle.host_answers.proofs.AnswerStatuses.{reads_statuses, statuses_append, statuses_noted, statuses_of}
use Rattle.host_answers.proofs.CommandAnswers.{AreAnswered, fed_answered}

-- ---- answers to more commands

less_one : (n m : ℕ) → suc n ≡ suc m → n ≡ m
less_one n m is = omega (arith, is)

pub accepted_append : (reads more : List CmdRead) (statuses later : List ℕ) → length reads ≡ length statuses
    → accepted_commands (reads ++ more) (statuses ++ later) ≡ accepted_commands reads statuses ++ accepted_commands more later
accepted_append [] more [] later is = refl
accepted_append [] more (status ∷ statuses) later is = absurd (omega (arith, is))
accepted_append (read ∷ reads) more [] later is = absurd (omega (arith, is))
accepted_append (read ∷ reads) more (status ∷ statuses) later is =
    ap (λ rest. accepted_command read status ++ rest) (accepted_append reads more statuses later (less_one (length reads) (length statuses) is))
    ∙ sym (append_assoc (accepted_command read status) (accepted_commands reads statuses) (accepted_commands more later))

both_answered : (reads more : List CmdRead) (statuses later : List ℕ) (commands next : List Command) → AreAnswered reads statuses commands
    → AreAnswered more later next → AreAnswered (reads ++ more) (statuses ++ later) (commands ++ next)
both_answered reads more statuses later commands next one two = record {
  lengths = length-append reads more ∙ (λ i. one.lengths i + two.lengths i) ∙ sym (length-append statuses later);
  accepted = accepted_append reads more statuses later one.lengths ∙ (λ i. one.accepted i ++ two.accepted i);
}

-- ---- a call

-- the command that a call completes
abbrev pub reads_after : Facts → Step → List CmdRead
reads_after facts (HostOctet octet) = command_read (result_of facts.octets octet)
reads_after facts other = []

-- no call of a turn has an answer
pub turn_silent : (setup : Setup) (facts : Facts) (step : Step) → HaveOwnHandles setup facts → IsInTurn step → statuses_of (notes_after setup facts step) ≡ []
turn_silent = none_in_turn ℕ statuses_noted reads_statuses

turn_answered : (setup : Setup) (facts : Facts) (step : Step) → HaveOwnHandles setup facts → IsInTurn step → AreAnswered [] (statuses_of (notes_after setup facts step)) []
turn_answered setup facts step own turn =
    subst (λ xs. AreAnswered [] xs []) (sym (turn_silent setup facts step own turn)) (record { lengths = refl; accepted = refl })

pub step_answered : (setup : Setup) (facts : Facts) (step : Step) → HaveOwnHandles setup facts
    → AreAnswered (reads_after facts step) (statuses_of (notes_after setup facts step)) (answered_after facts step)
step_answered setup facts (HostOctet octet) own = fed_answered setup facts (result_of facts.octets octet)
step_answered setup facts (TurnBegins slot on) own = turn_answered setup facts (TurnBegins slot on) own tt
step_answered setup facts (PacketHeard octets) own = turn_answered setup facts (PacketHeard octets) own tt
step_answered setup facts NothingHeard own = turn_answered setup facts NothingHeard own tt
step_answered setup facts TurnEnds own = turn_answered setup facts TurnEnds own tt

-- ---- the commands in its octets

commands_entry : (place : ℕ) (fed : Fed) → flat_map (λ (entry : ℕ × Fed). command_read entry.1) (frame_entry place fed) ≡ command_read fed
commands_entry place (Packet packet) = append-nil (command_read (Packet packet))
commands_entry place LostSync = refl
commands_entry place More = refl

pub commands_more : (before : List ℕ) (octet : ℕ) → commands_sent (before ++ octet ∷ []) ≡ commands_sent before ++ command_read (result_of before octet)
commands_more before octet =
    ap (flat_map (λ (entry : ℕ × Fed). command_read entry.1)) (frames_more before octet)
    ∙ flat_map-append (λ (entry : ℕ × Fed). command_read entry.1) (frames before) (frame_entry (length before + 1) (result_of before octet))
    ∙ ap (λ rest. commands_sent before ++ rest) (commands_entry (length before + 1) (result_of before octet))

turn_commands : (setup : Setup) (facts : Facts) (step : Step) → IsInTurn step → commands_sent (facts_after setup facts step).octets ≡ commands_sent facts.octets ++ []
turn_commands setup facts step turn = ap commands_sent (turn_octets setup facts step turn) ∙ sym (append-nil (commands_sent facts.octets))

step_commands : (setup : Setup) (facts : Facts) (step : Step) → commands_sent (facts_after setup facts step).octets ≡ commands_sent facts.octets ++ reads_after facts step
step_commands setup facts (HostOctet octet) = ap commands_sent (more_octets setup facts octet) ∙ commands_more facts.octets octet
step_commands setup facts (TurnBegins slot on) = turn_commands setup facts (TurnBegins slot on) tt
step_commands setup facts (PacketHeard octets) = turn_commands setup facts (PacketHeard octets) tt
step_commands setup facts NothingHeard = turn_commands setup facts NothingHeard tt
step_commands setup facts TurnEnds = turn_commands setup facts TurnEnds tt

-- ---- all calls

record IsAnsweredSoFar (facts after : Facts) (notes : List Note) (commands : List Command) : Type 0 where
  reads : List CmdRead
  octets : commands_sent after.octets ≡ commands_sent facts.octets ++ reads
  answered : AreAnswered reads (statuses_of notes) commands

answers_from : (setup : Setup) (facts : Facts) (past : List Step) → HaveOwnHandles setup facts
    → IsAnsweredSoFar facts (fold (facts_after setup) facts past) (notes_from setup facts past) (answered_commands (commands_accepted_from setup facts past))
answers_from setup facts [] own = record {
  reads = [];
  octets = sym (append-nil (commands_sent facts.octets));
  answered = record { lengths = refl; accepted = refl };
}
answers_from setup facts (step ∷ past) own =
    let next = facts_after setup facts step in
    let one = reads_after facts step in
    let later = answers_from setup next past (holds_step setup (HaveOwnHandles setup) (HaveOwnHandles setup) (handles_kept setup) facts step own) in
    let notes = notes_after setup facts step in
    let commands = commands_accepted_after facts step in record {
      reads = one ++ later.reads;
      octets = later.octets ∙ ap (λ xs. xs ++ later.reads) (step_commands setup facts step) ∙ append_assoc (commands_sent facts.octets) one later.reads;
      answered =
          subst (λ xs. AreAnswered (one ++ later.reads) xs (answered_commands (commands ++ commands_accepted_from setup next past)))
          (sym (statuses_append notes (notes_from setup next past)))
          (subst (AreAnswered (one ++ later.reads) (statuses_of notes ++ statuses_of (notes_from setup next past)))
          (sym (flat_map-append answered_command commands (commands_accepted_from setup next past)))
          (both_answered one later.reads (statuses_of notes) (statuses_of (notes_from setup next past)) (answered_after facts step)
          (answered_commands (commands_accepted_from setup next past)) (step_answered setup facts step own) later.answered));
    }

none_sent : commands_sent [] ≡ []
none_sent = ap (λ entries. flat_map (λ (entry : ℕ × Fed). command_read entry.1) entries) no_frames

pub answers_held : (setup : Setup) (past : List Step)
    → AreAnswered (commands_sent (facts_of setup past).octets) (statuses_of (notes_of setup past)) (answered_of setup past)
unfolding facts_of notes_of commands_accepted
answers_held setup past =
    let all = answers_from setup (first_facts setup) past (own_handles setup []) in
    subst (λ reads. AreAnswered reads (statuses_of (notes_from setup (first_facts setup) past)) (answered_commands (commands_accepted_from setup (first_facts setup) past)))
    (sym (all.octets ∙ ap (λ xs. xs ++ all.reads) none_sent)) all.answered
