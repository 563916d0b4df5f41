-- How many octets an end receives whose link is opened in a call, by the lines before the one that says so.
use Rattle.std.proofs.Common.{◌≡◌, ℕ, true, List, [], ◌∷◌, ◌++◌, map, refl, sym, ap, subst, ◌∙◌, append-nil}
use Rattle.std.specs.Prelude.{fold, min}
use Rattle.std.specs.List.{AllByRecursion}
use Rattle.std.proofs.lemmas.List.Concat.{flat_map-append}
use Rattle.ble_base.specs.Limits.{payload_octets}
use Rattle.ble_base.specs.declared.notes.Note.{Note}
use Rattle.ble_base.specs.declared.roles.Role.{Role}
use Rattle.ble_base.specs.declared.roles.Side.{Side}
use Rattle.hci_cmd.specs.declared.command.Command.{Command}
use Rattle.journal.specs.declared.entries.Entry.{Entry}
use Rattle.journal.specs.declared.entries.Entry.TheVariants.{Opened}
use Rattle.journal_ends.proofs.controller_model.Always.{IsInTurn}
use Rattle.journal_ends.specs.controller_model.Side.{notes_after}
use Rattle.journal_ends.specs.controller_model.Step.{Step as Call}
use Rattle.journal_ends.specs.controller_model.host_view.Flow.{most_received}
use Rattle.journal_ends.specs.controller_model.host_view.View.{first_flow}
use Rattle.journal_ends.specs.controller_model.host_view.declared.view.HostFlow.{HostFlow}
use Rattle.journal_ends.specs.host_answers.Answered.{accepted_commands, answer_status, answer_statuses, commands_sent, host_commands}
use Rattle.journal_ends.specs.host_answers.Flows.{flow_after, most_received_on}
use Rattle.journal_ends.specs.journal_links.LinkLines.{lines_of, link_named, where_named}
use Rattle.journal_ends.specs.run_model.History.{Event, Called, Noted}
use Rattle.journal_ends.specs.run_model.Journal.{journal_from, journal_of, side_of}
use Rattle.journal_ends.specs.run_model.Links.{Links, links_after, links_of}
use Rattle.journal_ends.specs.run_model.Readers.{fed_in, fed_to_side, packets_in, packets_to_host}
use Rattle.journal_ends.specs.run_model.Run.{Given, after_call, facts_at, history_of, run_of, setup_at}
use Rattle.journal_ends.proofs.host_answers.FlowHeld.{flow_so_far}
use Rattle.journal_ends.proofs.host_answers.LineAnswers.{IsQuiet, statuses_in, turn_quiet}
use Rattle.journal_ends.proofs.journal_acks.TwoStations.{IsOfTwo}
use Rattle.journal_ends.proofs.journal_links.LinkLines.{named_here}
use Rattle.journal_ends.proofs.run_model.Calls.{same_station}
use Rattle.journal_ends.proofs.run_model.Journals.{note_fed}
use Rattle.journal_ends.proofs.run_model.Parts.{journal_more}
use Rattle.journal_ends.proofs.run_model.Stations.{is_in}
use Rattle.journal_controls.proofs.OpenedControls.{none_of}

-- ---- lines in which a host is neither fed nor answered

record IsStill (side : Side) (line : Entry) : Type 0 where
  unfed : fed_in side line ≡ []
  untold : statuses_in side line ≡ []

still_front : (side : Side) (more rest : List Entry) → AllByRecursion (IsStill side) (more ++ rest) → AllByRecursion (IsStill side) more
still_front side [] rest all = tt
still_front side (line ∷ more) rest all = (all.0, still_front side more rest all.1)

none_fed : (side : Side) (more : List Entry) → AllByRecursion (IsStill side) more → fed_to_side side more ≡ []
none_fed side [] all = refl
none_fed side (line ∷ more) all = λ i. all.0.unfed i ++ none_fed side more all.1 i

none_told : (side : Side) (more : List Entry) → AllByRecursion (IsStill side) more → answer_statuses (packets_to_host side more) ≡ []
none_told side [] all = refl
none_told side (line ∷ more) all =
    flat_map-append answer_status (packets_in side line) (packets_to_host side more) ∙ (λ i. all.0.untold i ++ none_told side more all.1 i)

-- they change nothing of what it set
still_most : (side : Side) (front more : List Entry) → AllByRecursion (IsStill side) more → most_received_on side (front ++ more) ≡ most_received_on side front
still_most side front more all =
    let fed : fed_to_side side (front ++ more) ≡ fed_to_side side front =
    flat_map-append (fed_in side) front more ∙ ap (λ xs. fed_to_side side front ++ xs) (none_fed side more all) ∙ append-nil (fed_to_side side front) in
    let told : answer_statuses (packets_to_host side (front ++ more)) ≡ answer_statuses (packets_to_host side front) =
    ap answer_statuses (flat_map-append (packets_in side) front more) ∙ flat_map-append answer_status (packets_to_host side front) (packets_to_host side more)
    ∙ ap (λ xs. answer_statuses (packets_to_host side front) ++ xs) (none_told side more all) ∙ append-nil (answer_statuses (packets_to_host side front)) in
    let same : host_commands side (front ++ more) ≡ host_commands side front = λ i. accepted_commands (commands_sent (fed i)) (told i) in
    ap (λ (commands : List Command). min payload_octets (fold flow_after first_flow commands).acl_length) same

notes_still : (side : Side) (station : ℕ) (links : Links) (notes : List Note) → AllByRecursion (IsQuiet side station) notes
    → AllByRecursion (IsStill side) (journal_from links (map (Noted station) notes))
notes_still side station links [] quiet = tt
notes_still side station links (note ∷ notes) quiet = (
  record {
    unfed = note_fed side (side_of station) (links.link_of station) (links.last_of station) note;
    untold = quiet.0 (links.link_of station) (links.last_of station);
  },
  notes_still side station (links_after links (Noted station note)) notes quiet.1,
)

-- ---- the line that opens a link comes after lines that do not name it

record ComesAfter (one two first : List Entry) (line : Entry) (later : List Entry) : Type 0 where
  more : List Entry
  is : first ≡ one ++ more
  lines : two ≡ more ++ line ∷ later

comes_after : (side : Side) (number : ℕ) (line : Entry) (one two first later : List Entry) → where_named side number (link_named line) line ≡ line ∷ []
    → lines_of side number one ≡ [] → one ++ two ≡ first ++ line ∷ later → ComesAfter one two first line later
comes_after side number line [] two first later named none at = record { more = first; is = refl; lines = at }
comes_after side number line (early ∷ one) two [] later named none at =
    let same : early ≡ line = cc in
    let its = (none_of (where_named side number (link_named early) early) (lines_of side number one) none).first in
    absurd (let h : line ∷ [] ≡ [] = sym named ∙ ap (λ l. where_named side number (link_named l) l) (sym same) ∙ its in absurd cc)
comes_after side number line (early ∷ one) two (other ∷ first) later named none at =
    let same : early ≡ other = cc in
    let rest : one ++ two ≡ first ++ line ∷ later = cc in
    let after = comes_after side number line one two first later named (none_of (where_named side number (link_named early) early) (lines_of side number one) none).second rest in
    record { more = after.more; is = λ i. sym same i ∷ after.is i; lines = after.lines }

-- a line names its own link
names_own : (side : Side) (number handle : ℕ) (role : Role) → where_named side number (link_named (Opened side number handle role)) (Opened side number handle role) ≡ Opened side number handle role ∷ []
names_own side number handle role =
    let line = Opened side number handle role in
    sym (append-nil (where_named side number (link_named line) line)) ∙ named_here side number number line (same_station number)

-- ---- a call in which the line is said

pub opened_most : (given : Given) → IsOfTwo given → (station : ℕ) (step : Call) (history rest : List Event) → is_in station given.stations ≡ true → IsInTurn step
    → history_of (run_of given) ≡ history ++ Called station step ∷ rest → (number handle : ℕ) (role : Role) (first later : List Entry)
    → lines_of (side_of station) number (journal_of history) ≡ [] → journal_of (after_call given station step history) ≡ first ++ Opened (side_of station) number handle role ∷ later
    → most_received (facts_at given station history).view ≡ most_received_on (side_of station) first
opened_most given are_two station step history rest in_it turn at number handle role first later none is =
    let side = side_of station in
    let notes = notes_after (setup_at given station) (facts_at given station history) step in
    let lines = journal_from (links_of history) (map (Noted station) notes) in
    let after = comes_after side number (Opened side number handle role) (journal_of history) lines first later (names_own side number handle role) none
    (sym (journal_more history (Called station step ∷ map (Noted station) notes)) ∙ is) in
    let still = still_front side after.more (Opened side number handle role ∷ later)
    (subst (AllByRecursion (IsStill side)) after.lines (notes_still side station (links_of history) notes (turn_quiet given station step history turn))) in
    ap (λ (flow : HostFlow). min payload_octets flow.acl_length) (flow_so_far given are_two station in_it history rest (Called station step) at refl)
    ∙ sym (still_most side (journal_of history) after.more still) ∙ ap (most_received_on side) (sym after.is)
