-- Lists of what is seen of an end: the lines among it, what it is asked, and the slot of what it heard last.
use Rattle.std.proofs.Common.{◌≡◌, ℕ, ◌+◌, ◌-◌, ◌<◌, ◌≤◌, ◌&&◌, Bool, true, false, Option, Some, None, List, [], ◌∷◌, ◌++◌, length, map, refl, sym, ap, subst, ◌∙◌, append-nil, append_assoc, arith}
use Rattle.std.specs.Prelude.{flat_map, fold, if◌then◌else◌}
use Rattle.std.proofs.lemmas.Bool.{ltb-true}
use Rattle.std.proofs.lemmas.List.{length-append, map-append}
use Rattle.std.proofs.lemmas.Grind.{flat_map-append}
use Rattle.std.proofs.lemmas.List.Sums.{fold-append}
use Rattle.ble_base.specs.Side.{other_side}
use Rattle.ble_base.specs.declared.roles.Side.{Side}
use Rattle.ble_base.specs.declared.verdicts.Verdict.{Verdict}
use Rattle.ble_base.specs.declared.verdicts.Verdict.TheVariants.{Broken, Forged, Good, Missed}
use Rattle.hci_cmd.specs.declared.command.Command.{Command}
use Rattle.host_answers.specs.Answered.{accepted_in}
use Rattle.journal.specs.declared.entries.Entry.{Entry}
use Rattle.journal.specs.declared.entries.Entry.TheVariants.{Air}
use Rattle.journal_acks.specs.journal_links.Begun.{LinkBegun, link_numbered}
use Rattle.journal_acks.specs.journal_links.LinkLines.{lines_of, link_named, where_named}
use Rattle.journal_acks.specs.link_model.Step.{Step, Disconnected, ProcedureAsked}
use Rattle.journal_acks.proofs.journal_links.LinksBegun.{number_stays}
use Rattle.journal_acks.specs.journal_packets.Belonging.{is_side}
use Rattle.journal_acks.specs.run_model.History.{is_good}
use Rattle.journal_acks.specs.run_model.Readers.{turns_of}
use Rattle.journal_acks.specs.Shut.{heard_after, heard_from, is_of_link, last_heard}
use Rattle.journal_ends.specs.Asked.{Words, is_earlier, moment_in, step_asked, step_by}
use Rattle.journal_ends.specs.Seen.{Asks, Hears, HearsForged, Says, Seen, asked_if, asked_in_line, asked_in_step, heard_as, heard_in_line, heard_where, is_heard_on, line_said, lines_said, seen_from, seen_in_line, seen_on, slot_after}

-- ---- a line more

from_more : (words : Words) (side : Side) (number : ℕ) (front lines : List Entry) (line : Entry)
    → seen_from words side number front (lines ++ line ∷ []) ≡ seen_from words side number front lines ++ seen_in_line words side number (front ++ lines) line
from_more words side number front [] line =
    append-nil (seen_in_line words side number front line) ∙ ap (λ xs. seen_in_line words side number xs line) (sym (append-nil front))
from_more words side number front (first ∷ lines) line =
    let next = front ++ first ∷ [] in
    ap (λ seen. seen_in_line words side number front first ++ seen) (from_more words side number next lines line)
    ∙ sym (append_assoc (seen_in_line words side number front first) (seen_from words side number next lines) (seen_in_line words side number (next ++ lines) line))
    ∙ ap (λ xs. (seen_in_line words side number front first ++ seen_from words side number next lines) ++ seen_in_line words side number xs line) (append_assoc front (first ∷ []) lines)

pub seen_more : (words : Words) (side : Side) (number : ℕ) (journal : List Entry) (line : Entry)
    → seen_on words side number (journal ++ line ∷ []) ≡ seen_on words side number journal ++ seen_in_line words side number journal line
unfolding seen_on
seen_more words side number journal line = from_more words side number [] journal line

-- ---- the lines that it says

pub said_again : (lines : List Entry) → lines_said (map Says lines) ≡ lines
said_again [] = refl
said_again (line ∷ lines) = ap (λ xs. line ∷ xs) (said_again lines)

pub heard_says : (verdict : Verdict) (slot : ℕ) (octets : List ℕ) → lines_said (heard_as verdict slot octets) ≡ []
heard_says Good slot octets = refl
heard_says Forged slot octets = refl
heard_says Missed slot octets = refl
heard_says Broken slot octets = refl

where_says : (ours : Bool) (verdict : Verdict) (slot : ℕ) (octets : List ℕ) → lines_said (heard_where ours verdict slot octets) ≡ []
where_says true verdict slot octets = heard_says verdict slot octets
where_says false verdict slot octets = refl

line_says_none : (side : Side) (number : ℕ) (front : List Entry) (line : Entry) → lines_said (heard_in_line side number front line) ≡ []
line_says_none side number front (Air sender channel octets fate verdict) =
    where_says (is_heard_on number front sender channel octets fate verdict && is_side sender (other_side side)) verdict (length (turns_of front) - 1) octets
line_says_none side number front line = refl

-- what an end is asked says no line, and is heard in no slot
pub record IsUnsaid (seen : List Seen) : Type 0 where
  pub lines : lines_said seen ≡ []
  pub slot : (before : Option ℕ) → fold slot_after before seen ≡ before

pub step_unsaid : (step : Step) → IsUnsaid (asked_in_step step)
step_unsaid (ProcedureAsked ask) = record { lines = refl; slot = λ before. refl }
step_unsaid (Disconnected reason slot) = record { lines = refl; slot = λ before. refl }
step_unsaid other = record { lines = refl; slot = λ before. refl }

asked_unsaid : (step : Option Step) → IsUnsaid (asked_if step)
asked_unsaid None = record { lines = refl; slot = λ before. refl }
asked_unsaid (Some step) = step_unsaid step

all_unsaid : (steps : Command → Option Step) (commands : List Command) → IsUnsaid (flat_map (λ command. asked_if (steps command)) commands)
all_unsaid steps [] = record { lines = refl; slot = λ before. refl }
all_unsaid steps (command ∷ commands) =
    let one = asked_unsaid (steps command) in
    let more = all_unsaid steps commands in
    let later = flat_map (λ one. asked_if (steps one)) commands in record {
      lines = flat_map-append line_said (asked_if (steps command)) later ∙ (λ i. one.lines i ++ more.lines i);
      slot = λ before. fold-append slot_after before (asked_if (steps command)) later ∙ ap (λ slot. fold slot_after slot later) (one.slot before) ∙ more.slot before;
    }

line_unsaid : (words : Words) (side : Side) (number : ℕ) (front : List Entry) (line : Entry) → IsUnsaid (asked_in_line words side number front line)
line_unsaid words side number front line = all_unsaid (step_asked words side number front) (accepted_in side front line)

line_says : (words : Words) (side : Side) (number : ℕ) (front : List Entry) (line : Entry)
    → lines_said (seen_in_line words side number front line) ≡ where_named side number (link_named line) line
line_says words side number front line =
    let named = where_named side number (link_named line) line in
    let heard = heard_in_line side number front line in
    flat_map-append line_said (asked_in_line words side number front line) (heard ++ map Says named)
    ∙ ap (λ xs. xs ++ lines_said (heard ++ map Says named)) (line_unsaid words side number front line).lines
    ∙ flat_map-append line_said heard (map Says named)
    ∙ ap (λ xs. xs ++ lines_said (map Says named)) (line_says_none side number front line)
    ∙ said_again named

from_says : (words : Words) (side : Side) (number : ℕ) (front lines : List Entry) → lines_said (seen_from words side number front lines) ≡ lines_of side number lines
from_says words side number front [] = refl
from_says words side number front (line ∷ lines) =
    flat_map-append line_said (seen_in_line words side number front line) (seen_from words side number (front ++ line ∷ []) lines)
    ∙ (λ i. line_says words side number front line i ++ from_says words side number (front ++ line ∷ []) lines i)

pub says_its_lines : (words : Words) (side : Side) (number : ℕ) (journal : List Entry) → lines_said (seen_on words side number journal) ≡ lines_of side number journal
unfolding seen_on
says_its_lines words side number journal = from_says words side number [] journal

-- ---- the slot of what it heard last

pub said_slot : (before : Option ℕ) (lines : List Entry) → fold slot_after before (map Says lines) ≡ before
said_slot before [] = refl
said_slot before (line ∷ lines) = said_slot before lines

forged_slot : (ours theirs forged : Bool) (slot : ℕ) (octets : List ℕ) (before : Option ℕ)
    → (if ours && (theirs && false) then Some slot else before) ≡ fold slot_after before (heard_where forged Forged slot octets)
forged_slot true true true slot octets before = refl
forged_slot true true false slot octets before = refl
forged_slot true false true slot octets before = refl
forged_slot true false false slot octets before = refl
forged_slot false theirs true slot octets before = refl
forged_slot false theirs false slot octets before = refl

heard_slot : (ours theirs : Bool) (verdict : Verdict) (slot : ℕ) (octets : List ℕ) (before : Option ℕ)
    → (if ours && (theirs && is_good verdict) then Some slot else before) ≡ fold slot_after before (heard_where (ours && theirs) verdict slot octets)
heard_slot true true Good slot octets before = refl
heard_slot true true Forged slot octets before = refl
heard_slot true true Missed slot octets before = refl
heard_slot true true Broken slot octets before = refl
heard_slot true false verdict slot octets before = refl
heard_slot false theirs verdict slot octets before = refl

line_heard : (side : Side) (number : ℕ) (front : List Entry) (before : Option ℕ) (line : Entry)
    → heard_after number side front before line ≡ fold slot_after before (heard_in_line side number front line)
line_heard side number front before (Air sender channel octets fate verdict) = by verdict
  where
    by : (verdict : Verdict) → heard_after number side front before (Air sender channel octets fate verdict)
        ≡ fold slot_after before (heard_in_line side number front (Air sender channel octets fate verdict))
    by Good = heard_slot (is_of_link number front sender channel octets) (is_side sender (other_side side)) Good (length (turns_of front) - 1) octets before
    by Forged =
        forged_slot (is_of_link number front sender channel octets) (is_side sender (other_side side))
        (is_heard_on number front sender channel octets fate Forged && is_side sender (other_side side)) (length (turns_of front) - 1) octets before
    by Missed = heard_slot (is_of_link number front sender channel octets) (is_side sender (other_side side)) Missed (length (turns_of front) - 1) octets before
    by Broken = heard_slot (is_of_link number front sender channel octets) (is_side sender (other_side side)) Broken (length (turns_of front) - 1) octets before
line_heard side number front before line = refl

line_slot : (words : Words) (side : Side) (number : ℕ) (front : List Entry) (before : Option ℕ) (line : Entry)
    → heard_after number side front before line ≡ fold slot_after before (seen_in_line words side number front line)
line_slot words side number front before line =
    let named = where_named side number (link_named line) line in
    let asked = asked_in_line words side number front line in
    let heard = heard_in_line side number front line in
    line_heard side number front before line
    ∙ sym (said_slot (fold slot_after before heard) named)
    ∙ sym (fold-append slot_after before heard (map Says named))
    ∙ ap (λ slot. fold slot_after slot (heard ++ map Says named)) (sym ((line_unsaid words side number front line).slot before))
    ∙ sym (fold-append slot_after before asked (heard ++ map Says named))

from_slot : (words : Words) (side : Side) (number : ℕ) (front : List Entry) (before : Option ℕ) (lines : List Entry)
    → heard_from number side front before lines ≡ fold slot_after before (seen_from words side number front lines)
from_slot words side number front before [] = refl
from_slot words side number front before (line ∷ lines) =
    let next = front ++ line ∷ [] in
    from_slot words side number next (heard_after number side front before line) lines
    ∙ ap (λ one. fold slot_after one (seen_from words side number next lines)) (line_slot words side number front before line)
    ∙ sym (fold-append slot_after before (seen_in_line words side number front line) (seen_from words side number next lines))

-- what a journal says was heard last on a link is what its end hears last
pub last_is : (words : Words) (side : Side) (number : ℕ) (journal : List Entry) → last_heard number side journal ≡ fold slot_after None (seen_on words side number journal)
unfolding seen_on last_heard
last_is words side number journal = from_slot words side number [] None journal

-- ---- what an end is asked

abbrev pub ask_seen : Seen → List Step
ask_seen (Says line) = []
ask_seen (Hears slot octets) = []
ask_seen HearsForged = []
ask_seen (Asks step) = step ∷ []

abbrev pub asks_seen : List Seen → List Step
asks_seen seen = flat_map ask_seen seen

-- what a line asks is only that
pub record AreAsks (seen : List Seen) : Type 0 where
  pub steps : List Step
  pub is : seen ≡ map Asks steps

step_asks : (step : Step) → AreAsks (asked_in_step step)
step_asks (ProcedureAsked ask) = record { steps = ProcedureAsked ask ∷ []; is = refl }
step_asks (Disconnected reason slot) = record { steps = Disconnected reason slot ∷ []; is = refl }
step_asks other = record { steps = []; is = refl }

pub if_asks : (step : Option Step) → AreAsks (asked_if step)
if_asks None = record { steps = []; is = refl }
if_asks (Some step) = step_asks step

all_asks : (steps : Command → Option Step) (commands : List Command) → AreAsks (flat_map (λ command. asked_if (steps command)) commands)
all_asks steps [] = record { steps = []; is = refl }
all_asks steps (command ∷ commands) =
    let one = if_asks (steps command) in
    let more = all_asks steps commands in record {
      steps = one.steps ++ more.steps;
      is = (λ i. one.is i ++ more.is i) ∙ sym (map-append Asks one.steps more.steps);
    }

pub line_are_asks : (words : Words) (side : Side) (number : ℕ) (front : List Entry) (line : Entry) → AreAsks (asked_in_line words side number front line)
line_are_asks words side number front line = all_asks (step_asked words side number front) (accepted_in side front line)

-- ---- what it hears

abbrev pub packet_in : Seen → List Seen
packet_in (Says line) = []
packet_in (Hears slot octets) = Hears slot octets ∷ []
packet_in HearsForged = HearsForged ∷ []
packet_in (Asks step) = []

abbrev pub packets_seen : List Seen → List Seen
packets_seen seen = flat_map packet_in seen

said_packets : (lines : List Entry) → packets_seen (map Says lines) ≡ []
said_packets [] = refl
said_packets (line ∷ lines) = said_packets lines

asked_packets : (steps : List Step) → packets_seen (map Asks steps) ≡ []
asked_packets [] = refl
asked_packets (step ∷ steps) = asked_packets steps

-- a line of no packet
pub unheard_line : (words : Words) (side : Side) (number : ℕ) (journal : List Entry) (line : Entry) → heard_in_line side number journal line ≡ []
    → packets_seen (seen_on words side number (journal ++ line ∷ [])) ≡ packets_seen (seen_on words side number journal)
unheard_line words side number journal line none =
    let named = where_named side number (link_named line) line in
    let asks = line_are_asks words side number journal line in
    ap packets_seen (seen_more words side number journal line)
    ∙ flat_map-append packet_in (seen_on words side number journal) (seen_in_line words side number journal line)
    ∙ ap (λ xs. packets_seen (seen_on words side number journal) ++ xs)
    ((λ i. packets_seen (asks.is i ++ (none i ++ map Says named)))
    ∙ flat_map-append packet_in (map Asks asks.steps) (map Says named) ∙ (λ i. asked_packets asks.steps i ++ said_packets named i))
    ∙ append-nil (packets_seen (seen_on words side number journal))

-- an end that heard nothing and is asked nothing only says lines
pub only_says : (seen : List Seen) → packets_seen seen ≡ [] → asks_seen seen ≡ [] → seen ≡ map Says (lines_said seen)
only_says [] is none = refl
only_says (Says line ∷ seen) is none = ap (λ xs. Says line ∷ xs) (only_says seen is none)
only_says (Hears slot octets ∷ seen) is none = absurd cc
only_says (HearsForged ∷ seen) is none = absurd cc
only_says (Asks step ∷ seen) is none = absurd cc

-- nothing is asked in the turn in which a link begins, nor before
said_asks : (lines : List Entry) → asks_seen (map Says lines) ≡ []
said_asks [] = refl
said_asks (line ∷ lines) = said_asks lines

heard_asks : (ours : Bool) (verdict : Verdict) (slot : ℕ) (octets : List ℕ) → asks_seen (heard_where ours verdict slot octets) ≡ []
heard_asks true Good slot octets = refl
heard_asks true Forged slot octets = refl
heard_asks true Missed slot octets = refl
heard_asks true Broken slot octets = refl
heard_asks false verdict slot octets = refl

line_asks : (side : Side) (number : ℕ) (front : List Entry) (line : Entry) → asks_seen (heard_in_line side number front line) ≡ []
line_asks side number front (Air sender channel octets fate verdict) =
    heard_asks (is_heard_on number front sender channel octets fate verdict && is_side sender (other_side side)) verdict (length (turns_of front) - 1) octets
line_asks side number front line = refl

pub none_asked : (steps : Command → Option Step) (commands : List Command) → ((command : Command) → steps command ≡ None)
    → flat_map (λ command. asked_if (steps command)) commands ≡ []
none_asked steps [] none = refl
none_asked steps (command ∷ commands) none = λ i. asked_if (none command i) ++ none_asked steps commands none i

-- an earlier link, where it has its number already
pub earlier_slot : (begun : Option LinkBegun) (slot : ℕ) (X : Type 0) → is_earlier begun slot ≡ true
    → ((link : LinkBegun) → begun ≡ Some link → link.slot < slot → X) → X
earlier_slot None slot X is then_so = absurd (let h : false ≡ true = is in absurd cc)
earlier_slot (Some link) slot X is then_so = then_so link refl (ltb-true link.slot slot is)

late_asks : (words : Words) (side : Side) (number : ℕ) (front rest : List Entry) (line : Entry) (link : LinkBegun) → link_numbered number (front ++ rest) ≡ Some link
    → length (turns_of front) ≤ link.slot + 1 → asked_in_line words side number front line ≡ []
late_asks words side number front rest line link is late = by (is_earlier (link_numbered number front) (length (turns_of front) - 1)) refl
  where
    by : (earlier : Bool) → is_earlier (link_numbered number front) (length (turns_of front) - 1) ≡ earlier → asked_in_line words side number front line ≡ []
    by false none = none_asked (step_asked words side number front) (accepted_in side front line)
        (λ command. ap (λ b. if b then step_by (lines_of side number front) (moment_in words side front (length (turns_of front) - 1)) command else None) none)
    by true one = earlier_slot (link_numbered number front) (length (turns_of front) - 1) _ one (λ begun is_begun before.
        let both : Some begun ≡ Some link = sym (number_stays number front rest begun is_begun) ∙ is in
        let same : begun ≡ link = cc in
        let slot : begun.slot ≡ link.slot = ap (λ (l : LinkBegun). l.slot) same in
        absurd (omega (arith, before, slot, late)))

turns_front : (front rest : List Entry) → length (turns_of front) ≤ length (turns_of (front ++ rest))
turns_front front rest =
    let both = ap length (flat_map-append _ front rest) ∙ length-append (turns_of front) (turns_of rest) in omega (arith, both)

late_from : (words : Words) (side : Side) (number : ℕ) (front lines : List Entry) (link : LinkBegun) → link_numbered number (front ++ lines) ≡ Some link
    → length (turns_of (front ++ lines)) ≤ link.slot + 1 → asks_seen (seen_from words side number front lines) ≡ []
late_from words side number front [] link is late = refl
late_from words side number front (line ∷ lines) link is late =
    let named = where_named side number (link_named line) line in
    let asked = asked_in_line words side number front line in
    let heard = heard_in_line side number front line in
    let next = front ++ line ∷ [] in
    let split = sym (append_assoc front (line ∷ []) lines) in
    let before = turns_front front (line ∷ lines) in
    let none = late_asks words side number front (line ∷ lines) line link is (omega (arith, before, late)) in
    flat_map-append ask_seen (asked ++ (heard ++ map Says named)) (seen_from words side number next lines)
    ∙ (λ i. asks_seen (none i ++ (heard ++ map Says named))
    ++ late_from words side number next lines link (ap (link_numbered number) (sym split) ∙ is)
    (subst (λ (xs : List Entry). length (turns_of xs) ≤ link.slot + 1) split late) i)
    ∙ append-nil (asks_seen (heard ++ map Says named))
    ∙ flat_map-append ask_seen heard (map Says named)
    ∙ (λ i. line_asks side number front line i ++ said_asks named i)

-- a link that began in this turn, on which nothing was heard
pub seen_unheard : (words : Words) (side : Side) (number : ℕ) (journal : List Entry) (link : LinkBegun) → link_numbered number journal ≡ Some link
    → length (turns_of journal) ≤ link.slot + 1 → packets_seen (seen_on words side number journal) ≡ [] → seen_on words side number journal ≡ map Says (lines_of side number journal)
unfolding seen_on
seen_unheard words side number journal link is late none =
    only_says (seen_on words side number journal) none (late_from words side number [] journal link is late)
    ∙ ap (map Says) (says_its_lines words side number journal)
