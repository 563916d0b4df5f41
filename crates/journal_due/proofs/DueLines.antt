-- What is due by a journal with one line more.
use Rattle.std.proofs.Common.{◌≡◌, ℕ, ◌==◌, ◌&&◌, Bool, true, false, Option, Some, None, List, [], ◌∷◌, ◌++◌, map, refl, sym, ap, ◌∙◌, append-nil, append_assoc, if◌then◌else◌}
use Rattle.std.specs.Prelude.{fold}
use Rattle.std.proofs.lemmas.List.Sums.{fold-append}
use Rattle.ble_base.specs.declared.roles.Side.{Side}
use Rattle.ble_base.specs.declared.roles.Side.TheVariants.{A, B}
use Rattle.journal.specs.declared.entries.Entry.{Entry}
use Rattle.journal.specs.declared.entries.Entry.TheVariants.{Opened, Shut, Up}
use Rattle.journal_controls.specs.journal_ends.Asked.{Words}
use Rattle.journal_controls.specs.journal_ends.Seen.{Asks, Hears, HearsForged, Says, asked_in_line, seen_in_line}
use Rattle.journal_controls.specs.journal_acks.Carried.{carried_of}
use Rattle.journal_controls.specs.journal_acks.Exchange.{exchange_of}
use Rattle.journal_controls.specs.journal_links.Begun.{link_numbered}
use Rattle.journal_controls.specs.journal_packets.Belonging.{is_side}
use Rattle.journal_controls.specs.link_model.Data.{is_control}
use Rattle.journal_controls.specs.link_model.Step.{Step}
use Rattle.journal_controls.specs.link_model.keyed_control.Keyed.{Keyed}
use Rattle.journal_controls.specs.run_model.Readers.{of_side}
use Rattle.journal_controls.specs.host_answers.Flows.{most_received_on}
use Rattle.journal_controls.specs.LineSteps.{is_more_acked, keyed_begun, keyed_in_line, keyed_on, turn_now}
use Rattle.journal_controls.specs.LinesDue.{due_from, due_hearing, due_saying, due_seen, due_with, lines_due}
use Rattle.journal_controls.proofs.journal_ends.SeenLists.{AreAsks, line_are_asks}
use Rattle.journal_controls.proofs.LineFolds.{keyed_more}
use Rattle.journal_due.specs.ProcedureLines.{applied_after, applied_in, applied_last, is_same_side, side_of_line}

-- ---- a line more

from_more : (words : Words) (side : Side) (number : ℕ) (front due lines : List Entry) (line : Entry)
    → due_from words side number front due (lines ++ line ∷ [])
    ≡ due_with words side number (front ++ lines) line (due_from words side number front due lines) (keyed_on words side number (front ++ lines))
from_more words side number front due [] line = ap (λ xs. due_with words side number xs line due (keyed_on words side number xs)) (sym (append-nil front))
from_more words side number front due (first ∷ lines) line =
    let next = due_with words side number front first due (keyed_on words side number front) in
    from_more words side number (front ++ first ∷ []) next lines line
    ∙ ap (λ xs. due_with words side number xs line (due_from words side number (front ++ first ∷ []) next lines) (keyed_on words side number xs)) (append_assoc front (first ∷ []) lines)

pub due_more : (words : Words) (side : Side) (number : ℕ) (journal : List Entry) (line : Entry)
    → lines_due words side number (journal ++ line ∷ []) ≡ due_with words side number journal line (lines_due words side number journal) (keyed_on words side number journal)
unfolding lines_due
due_more words side number journal line = from_more words side number [] [] journal line

-- ---- nothing is due where the link is not open

-- a line of this side, of this link
named_due : (words : Words) (side other : Side) (same : Bool) (number : ℕ) (front : List Entry) (line : Entry) (due : List Entry) (k : Keyed) (begun : Option Keyed)
    → due_saying side number (words side front) (turn_now front) k due line ≡ [] → (if is_side other side && same then begun else Some k) ≡ None
    → fold (due_seen words side number front line k) due (map Says (of_side side other (if same then line ∷ [] else []))) ≡ []
named_due words A A true number front line due k begun none is = none
named_due words A A false number front line due k begun none is = absurd cc
named_due words A B same number front line due k begun none is = absurd cc
named_due words B A same number front line due k begun none is = absurd cc
named_due words B B true number front line due k begun none is = none
named_due words B B false number front line due k begun none is = absurd cc

shut_leaves : (words : Words) (side : Side) (number : ℕ) (front : List Entry) (line : Entry) (due : List Entry) (k : Keyed) → keyed_in_line words side number front (Some k) line ≡ None
    → due_with words side number front line due (Some k) ≡ []
shut_leaves words side number front (Opened other link handle role) due k is =
    named_due words side other (link == number) number front (Opened other link handle role) due k (keyed_begun (most_received_on side front) side (link_numbered number front)) refl is
shut_leaves words side number front (Shut other link reason) due k is =
    named_due words side other (link == number) number front (Shut other link reason) due k None refl is
shut_leaves words side number front line due k is = absurd cc

step_leaves : (words : Words) (side : Side) (number : ℕ) (front : List Entry) (line : Entry) (due : List Entry) (before : Option Keyed) → keyed_in_line words side number front before line ≡ None
    → due_with words side number front line due before ≡ []
step_leaves words side number front line due None is = refl
step_leaves words side number front line due (Some k) is = shut_leaves words side number front line due k is

unopened_from : (words : Words) (side : Side) (number : ℕ) (front due lines : List Entry) → (keyed_on words side number front ≡ None → due ≡ []) → keyed_on words side number (front ++ lines) ≡ None
    → due_from words side number front due lines ≡ []
unopened_from words side number front due [] none is = none (ap (keyed_on words side number) (sym (append-nil front)) ∙ is)
unopened_from words side number front due (line ∷ lines) none is =
    unopened_from words side number (front ++ line ∷ []) (due_with words side number front line due (keyed_on words side number front)) lines
    (λ shut. step_leaves words side number front line due (keyed_on words side number front) (sym (keyed_more words side number front line) ∙ shut))
    (ap (keyed_on words side number) (append_assoc front (line ∷ []) lines) ∙ is)

pub none_unopened : (words : Words) (side : Side) (number : ℕ) (journal : List Entry) → keyed_on words side number journal ≡ None → lines_due words side number journal ≡ []
unfolding lines_due
none_unopened words side number journal is = unopened_from words side number [] [] journal (λ none. refl) is

-- ---- lines of an end that is open, and others

pub said_due : (words : Words) (side : Side) (number : ℕ) (journal : List Entry) (line : Entry) (k : Keyed) → keyed_on words side number journal ≡ Some k
    → seen_in_line words side number journal line ≡ Says line ∷ []
    → lines_due words side number (journal ++ line ∷ []) ≡ due_saying side number (words side journal) (turn_now journal) k (lines_due words side number journal) line
said_due words side number journal line k is said =
    due_more words side number journal line ∙ ap (due_with words side number journal line (lines_due words side number journal)) is
    ∙ ap (fold (due_seen words side number journal line k) (lines_due words side number journal)) said

pub heard_due : (words : Words) (side : Side) (number slot : ℕ) (octets : List ℕ) (journal : List Entry) (line : Entry) (k : Keyed) → keyed_on words side number journal ≡ Some k
    → seen_in_line words side number journal line ≡ Hears slot octets ∷ []
    → lines_due words side number (journal ++ line ∷ [])
    ≡ due_hearing side number (is_more_acked (exchange_of number journal side) (exchange_of number (journal ++ line ∷ []) side) && is_control (carried_of number journal side)) k.phased.control
heard_due words side number slot octets journal line k is heard =
    due_more words side number journal line ∙ ap (due_with words side number journal line (lines_due words side number journal)) is
    ∙ ap (fold (due_seen words side number journal line k) (lines_due words side number journal)) heard

pub quiet_due : (words : Words) (side : Side) (number : ℕ) (journal : List Entry) (line : Entry) → seen_in_line words side number journal line ≡ []
    → lines_due words side number (journal ++ line ∷ []) ≡ lines_due words side number journal
quiet_due words side number journal line none = due_more words side number journal line ∙ by (keyed_on words side number journal) refl
  where
    by : (found : Option Keyed) → keyed_on words side number journal ≡ found → due_with words side number journal line (lines_due words side number journal) found ≡ lines_due words side number journal
    by None is = sym (none_unopened words side number journal is)
    by (Some k) is = ap (fold (due_seen words side number journal line k) (lines_due words side number journal)) none

-- a packet that the end judges forged
pub forged_due : (words : Words) (side : Side) (number : ℕ) (journal : List Entry) (line : Entry) → seen_in_line words side number journal line ≡ HearsForged ∷ []
    → lines_due words side number (journal ++ line ∷ []) ≡ lines_due words side number journal
forged_due words side number journal line forged = due_more words side number journal line ∙ by (keyed_on words side number journal) refl
  where
    by : (found : Option Keyed) → keyed_on words side number journal ≡ found → due_with words side number journal line (lines_due words side number journal) found ≡ lines_due words side number journal
    by None is = sym (none_unopened words side number journal is)
    by (Some k) is = ap (fold (due_seen words side number journal line k) (lines_due words side number journal)) forged

-- ---- what a host asks leaves what is due

asks_leave : (words : Words) (side : Side) (number : ℕ) (front : List Entry) (line : Entry) (k : Keyed) (due : List Entry) (steps : List Step)
    → fold (due_seen words side number front line k) due (map Asks steps) ≡ due
asks_leave words side number front line k due [] = refl
asks_leave words side number front line k due (step ∷ steps) = asks_leave words side number front line k due steps

asked_due : (words : Words) (side : Side) (number : ℕ) (journal : List Entry) (line : Entry) → AreAsks (seen_in_line words side number journal line)
    → lines_due words side number (journal ++ line ∷ []) ≡ lines_due words side number journal
asked_due words side number journal line asks = due_more words side number journal line ∙ by (keyed_on words side number journal) refl
  where
    by : (found : Option Keyed) → keyed_on words side number journal ≡ found → due_with words side number journal line (lines_due words side number journal) found ≡ lines_due words side number journal
    by None is = sym (none_unopened words side number journal is)
    by (Some k) is =
        ap (fold (due_seen words side number journal line k) (lines_due words side number journal)) asks.is
        ∙ asks_leave words side number journal line k (lines_due words side number journal) asks.steps

-- a packet to a host is no more than an answer
pub packet_due : (words : Words) (side other : Side) (number : ℕ) (journal : List Entry) (octets : List ℕ)
    → lines_due words side number (journal ++ Up other octets ∷ []) ≡ lines_due words side number journal
packet_due words side other number journal octets =
    let asks = line_are_asks words side number journal (Up other octets) in
    asked_due words side number journal (Up other octets) (record { steps = asks.steps; is = append-nil (asked_in_line words side number journal (Up other octets)) ∙ asks.is })

-- ---- the indication of the last line of a side

applied_more : (side : Side) (journal : List Entry) (line : Entry) → applied_last side (journal ++ line ∷ []) ≡ applied_after side (applied_last side journal) line
unfolding applied_last
applied_more side journal line = fold-append (applied_after side) None journal (line ∷ [])

pub own_side : (side : Side) → is_side side side ≡ true
own_side A = refl
own_side B = refl

pub own_applied : (side : Side) (journal : List Entry) (line : Entry) → side_of_line line ≡ Some side → applied_last side (journal ++ line ∷ []) ≡ applied_in line
own_applied side journal line own =
    applied_more side journal line ∙ ap (λ b. if b then applied_in line else applied_last side journal) (ap (λ one. is_same_side one side) own ∙ own_side side)

pub other_applied : (side : Side) (journal : List Entry) (line : Entry) → is_same_side (side_of_line line) side ≡ false
    → applied_last side (journal ++ line ∷ []) ≡ applied_last side journal
other_applied side journal line other = applied_more side journal line ∙ ap (λ b. if b then applied_in line else applied_last side journal) other
