-- The settings by the lines of a side are those that its controller holds.
use Rattle.std.proofs.Common.{◌≡◌, ℕ, Bool, true, false, List, [], ◌∷◌, ◌++◌, refl, sym, ap, subst, ◌∙◌, append-nil, append_assoc}
use Rattle.std.specs.Prelude.{fold, if◌then◌else◌}
use Rattle.ble_base.specs.declared.roles.Side.{Side}
use Rattle.ble_base.specs.declared.roles.Side.TheVariants.{A, B}
use Rattle.hci_cmd.specs.declared.command.Command.{Command}
use Rattle.journal.specs.declared.entries.Entry.{Entry}
use Rattle.journal.specs.declared.entries.Entry.TheVariants.{Turn, Fed}
use Rattle.journal_data.specs.controller_model.Side.{notes_of}
use Rattle.journal_data.specs.run_model.Feeding.{HasNoted}
use Rattle.journal_data.specs.run_model.History.{Event, noted_by, past_of}
use Rattle.journal_data.specs.run_model.Journal.{journal_of, side_of}
use Rattle.journal_data.specs.run_model.Readers.{fed_in, fed_to_side, of_side, packets_to_host}
use Rattle.journal_data.specs.run_model.Run.{Given, facts_at, history_of, run_of, setup_at}
use Rattle.journal_data.proofs.run_model.Stations.{is_in}
use Rattle.journal_data.specs.journal_packets.Belonging.{is_side}
use Rattle.journal_data.proofs.journal_acks.TwoStations.{IsOfTwo}
use Rattle.journal_data.specs.Lines.{Lines, is_of_side, line_after, lines_after, lines_of, no_lines}
use Rattle.journal_data.proofs.EachLine.{lines_at}
use Rattle.journal_data.proofs.Submitting.{HasFed}
use Rattle.host_answers.specs.Answered.{accepted_commands, answer_statuses, commands_sent, host_commands}
use Rattle.host_answers.proofs.AnswerStatuses.{statuses_of, statuses_read}
use Rattle.host_answers.proofs.SideLines.{packet_lines}
use Rattle.journal_hearings.specs.Settings.{accept_list, filter_policy, list_after, policy_after}
use Rattle.journal_hearings.proofs.SettingsHeld.{Holds, settings_held}

-- ---- the octets of a host

side_octets : (side other : Side) (fed octets : List ℕ) → (if is_side other side then fed ++ octets else fed) ≡ fed ++ of_side side other octets
side_octets A A fed octets = refl
side_octets A B fed octets = sym (append-nil fed)
side_octets B A fed octets = sym (append-nil fed)
side_octets B B fed octets = refl

fed_if : (own : Bool) (one two : Lines) → (if own then one else two).fed ≡ (if own then one.fed else two.fed)
fed_if true one two = refl
fed_if false one two = refl

same_if : (own : Bool) (octets : List ℕ) → (if own then octets else octets) ≡ octets
same_if true octets = refl
same_if false octets = refl

line_fed : (side : Side) (lines : Lines) (entry : Entry) → (lines_after 8 side lines entry).fed ≡ lines.fed ++ fed_in side entry
line_fed side lines (Fed other octets) =
    fed_if (is_side other side) (line_after 8 lines (Fed other octets)) lines ∙ side_octets side other lines.fed octets
line_fed side lines (Turn slot a_on b_on) = sym (append-nil lines.fed)
line_fed side lines entry =
    fed_if (is_of_side side entry) (line_after 8 lines entry) lines ∙ same_if (is_of_side side entry) lines.fed ∙ sym (append-nil lines.fed)

lines_fed : (side : Side) (lines : Lines) (journal : List Entry) → (fold (lines_after 8 side) lines journal).fed ≡ lines.fed ++ fed_to_side side journal
lines_fed side lines [] = sym (append-nil lines.fed)
lines_fed side lines (entry ∷ journal) =
    lines_fed side (lines_after 8 side lines entry) journal ∙ ap (λ xs. xs ++ fed_to_side side journal) (line_fed side lines entry)
    ∙ append_assoc lines.fed (fed_in side entry) (fed_to_side side journal)

pub fed_is : (station : ℕ) (history : List Event) → fed_to_side (side_of station) (journal_of history) ≡ (lines_at station history).fed
unfolding lines_of
fed_is station history = sym (lines_fed (side_of station) no_lines (journal_of history))

-- ---- the settings

pub settings_read : (given : Given) → IsOfTwo given → (station : ℕ) → is_in station given.stations ≡ true → (before rest : List Event)
    → history_of (run_of given) ≡ before ++ rest → HasNoted given station before → HasFed given station before
    → Holds (filter_policy (side_of station) (journal_of before)) (accept_list (side_of station) (journal_of before)) (facts_at given station before)
settings_read given pair station in_it before rest at noted fed =
    let setup = setup_at given station in
    let facts = facts_at given station before in
    let side = side_of station in
    let journal = journal_of before in
    let octets : fed_to_side side journal ≡ facts.octets = fed_is station before ∙ fed in
    let statuses : answer_statuses (packets_to_host side journal) ≡ statuses_of (notes_of setup (past_of station before)) =
    ap answer_statuses (packet_lines given pair station in_it before rest at) ∙ statuses_read (noted_by station before) ∙ ap statuses_of noted in
    let accepted : host_commands side journal ≡ accepted_commands (commands_sent facts.octets) (statuses_of (notes_of setup (past_of station before))) =
    λ i. accepted_commands (commands_sent (octets i)) (statuses i) in
    let held = settings_held setup (past_of station before) in
    subst (λ (commands : List Command). Holds (fold policy_after 0 commands) (fold list_after [] commands) facts) (sym accepted) held
