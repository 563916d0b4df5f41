-- The words that a controller draws in a call, and in all calls so far, by the lines.
use Rattle.std.proofs.Common.{◌≡◌, ℕ, ◌+◌, List, [], ◌∷◌, ◌++◌, map, refl, sym, ap, ◌∙◌, append-nil, append_assoc, arith}
use Rattle.std.specs.Prelude.{fold, sum_by}
use Rattle.std.proofs.lemmas.List.Sums.{sum_by-append, sum_by-cons}
use Rattle.ble_base.specs.declared.notes.Note.{Note}
use Rattle.ble_base.specs.declared.notes.Note.TheVariants.{Up}
use Rattle.ble_base.specs.declared.roles.Side.{Side}
use Rattle.hci_cmd.specs.declared.command.Command.{Command}
use Rattle.hci_cmd.specs.declared.command.Command.TheVariants.{HostCompleted}
use Rattle.journal.specs.declared.entries.Entry.{Entry}
use Rattle.journal_controls.specs.controller_model.Facts.{Facts, Setup, first_facts}
use Rattle.journal_controls.specs.controller_model.Host.{commands_accepted, commands_accepted_after, commands_accepted_from, words_answered, words_drawn, words_heard, words_heard_from, words_of}
use Rattle.journal_controls.specs.controller_model.Side.{facts_after, facts_of, notes_after}
use Rattle.journal_controls.specs.controller_model.Step.{Step as Call}
use Rattle.journal_controls.specs.host_answers.Answered.{accepted_from, accepted_in}
use Rattle.journal_controls.specs.host_answers.Calls.{answered_after, answered_command, answered_commands, call_lines}
use Rattle.journal_controls.specs.journal_ends.Asked.{Words}
use Rattle.journal_controls.specs.run_model.History.{Event, Noted}
use Rattle.journal_controls.specs.run_model.Journal.{entry_of, journal_from, side_of}
use Rattle.journal_controls.specs.run_model.Links.{Links, links_after, links_of}
use Rattle.journal_controls.specs.run_model.Run.{Given, facts_at, setup_at}
use Rattle.journal_words.specs.Drawn.{words_asked, words_connecting, words_in_line}
use Rattle.journal_words.proofs.DrawnLines.{sum_in}
use Rattle.journal_words.proofs.TakenWords.{taken_in}

-- ---- a step more

accepted_more : (setup : Setup) (facts : Facts) (past : List Call) (step : Call)
    → commands_accepted_from setup facts (past ++ step ∷ [])
    ≡ commands_accepted_from setup facts past ++ commands_accepted_after (fold (facts_after setup) facts past) step
accepted_more setup facts [] step = append-nil (commands_accepted_after facts step)
accepted_more setup facts (first ∷ past) step =
    let next = facts_after setup facts first in
    ap (λ commands. commands_accepted_after facts first ++ commands) (accepted_more setup next past step)
    ∙ sym (append_assoc (commands_accepted_after facts first) (commands_accepted_from setup next past) (commands_accepted_after (fold (facts_after setup) next past) step))

pub drawn_more : (setup : Setup) (past : List Call) (step : Call)
    → words_drawn setup (past ++ step ∷ []) ≡ words_drawn setup past + sum_by words_of (commands_accepted_after (facts_of setup past) step)
unfolding commands_accepted facts_of
drawn_more setup past step =
    let first = first_facts setup in
    ap (sum_by words_of) (accepted_more setup first past step)
    ∙ sum_by-append words_of (commands_accepted_from setup first past) (commands_accepted_after (fold (facts_after setup) first past) step)

heard_more : (setup : Setup) (facts : Facts) (past : List Call) (step : Call)
    → words_heard_from setup facts (past ++ step ∷ []) ≡ words_heard_from setup facts past + words_heard setup (fold (facts_after setup) facts past) step
heard_more setup facts [] step = omega arith
heard_more setup facts (first ∷ past) step = (let more = heard_more setup (facts_after setup facts first) past step in omega (arith, more))

pub answered_more : (setup : Setup) (past : List Call) (step : Call)
    → words_answered setup (past ++ step ∷ []) ≡ words_answered setup past + words_heard setup (facts_of setup past) step
unfolding words_answered facts_of
answered_more setup past step = heard_more setup (first_facts setup) past step

-- ---- the lines of a call

-- a command without an answer draws nothing
answered_words : (commands : List Command) → sum_by words_of (answered_commands commands) ≡ sum_by words_of commands
answered_words [] = refl
answered_words (command ∷ commands) =
    sum_by-append words_of (answered_command command) (answered_commands commands)
    ∙ (λ i. one_word command i + answered_words commands i)
    ∙ sym (sum_by-cons words_of command commands)
  where
    one_word : (command : Command) → sum_by words_of (answered_command command) ≡ words_of command
    one_word (HostCompleted counts) = refl
    one_word other = refl

asked_words : (side : Side) (front lines : List Entry) → sum_in (words_asked side) front lines ≡ sum_by words_of (accepted_from side front lines)
asked_words side front [] = refl
asked_words side front (line ∷ lines) =
    let next = front ++ line ∷ [] in
    ap (λ n. words_asked side front line + n) (asked_words side next lines)
    ∙ sym (sum_by-append words_of (accepted_in side front line) (accepted_from side next lines))

unconnecting : (side other : Side) (link_of : ℕ → ℕ) (last : ℕ) (note : Note) → words_connecting side (entry_of other link_of last note) ≡ 0
unconnecting side other link_of last (Up packet) = refl
unconnecting side other link_of last note = refl

-- none is a packet
note_words : (words : Words) (side : Side) (station : ℕ) (front : List Entry) (links : Links) (notes : List Note)
    → sum_in (words_in_line words side) front (journal_from links (map (Noted station) notes))
    ≡ sum_in (words_asked side) front (journal_from links (map (Noted station) notes)) + taken_in words side station front links notes
note_words words side station front links [] = refl
note_words words side station front links (note ∷ notes) =
    let line = entry_of (side_of station) (links.link_of station) (links.last_of station) note in
    let none = unconnecting side (side_of station) (links.link_of station) (links.last_of station) note in
    let rest = note_words words side station (front ++ line ∷ []) (links_after links (Noted station note)) notes in
    omega (arith, none, rest)

pub call_sum : (words : Words) (side : Side) (given : Given) (station : ℕ) (step : Call) (history : List Event) (front : List Entry)
    → sum_in (words_in_line words side) front (call_lines given station step history)
    ≡ sum_by words_of (accepted_from side front (call_lines given station step history))
    + taken_in words side station front (links_of history) (notes_after (setup_at given station) (facts_at given station history) step)
call_sum words side given station step history front =
    let notes = notes_after (setup_at given station) (facts_at given station history) step in
    note_words words side station front (links_of history) notes
    ∙ ap (λ n. n + taken_in words side station front (links_of history) notes) (asked_words side front (call_lines given station step history))

-- where its lines accept what it accepts
pub accepted_words : (given : Given) (station : ℕ) (step : Call) (history : List Event) (front : List Entry) (side : Side)
    → accepted_from side front (call_lines given station step history) ≡ answered_after (facts_at given station history) step
    → sum_by words_of (accepted_from side front (call_lines given station step history)) ≡ sum_by words_of (commands_accepted_after (facts_at given station history) step)
accepted_words given station step history front side same =
    ap (sum_by words_of) same ∙ answered_words (commands_accepted_after (facts_at given station history) step)
