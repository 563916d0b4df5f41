-- An end by a journal with one line more.
use Rattle.std.proofs.Common.{◌≡◌, ℕ, ◌==◌, ◌&&◌, Bool, true, false, Option, Some, None, List, [], ◌∷◌, ◌++◌, map, refl, sym, ap, subst, ◌∙◌, append-nil, append_assoc, if◌then◌else◌}
use Rattle.std.specs.List.{flat_map}
use Rattle.std.specs.Option.{option_map}
use Rattle.ble_base.specs.declared.roles.Role.{Role}
use Rattle.ble_base.specs.declared.roles.Side.{Side}
use Rattle.ble_base.specs.declared.roles.Side.TheVariants.{A, B}
use Rattle.journal.specs.declared.entries.Entry.{Entry}
use Rattle.journal.specs.declared.entries.Entry.TheVariants.{Opened, Shut}
use Rattle.journal_ends.specs.Asked.{Words}
use Rattle.journal_ends.specs.host_answers.Flows.{most_received_on}
use Rattle.journal_ends.specs.host_answers.Answered.{accepted_in}
use Rattle.journal_ends.specs.Answering.{answers_in_line}
use Rattle.journal_ends.specs.Seen.{Asks, Hears, HearsForged, Says, Seen, asked_in_line, heard_in_line, seen_in_line}
use Rattle.journal_ends.specs.journal_acks.Carried.{carried_of}
use Rattle.journal_ends.specs.journal_acks.Exchange.{exchange_of}
use Rattle.journal_ends.specs.journal_links.Begun.{LinkBegun, link_numbered}
use Rattle.journal_ends.specs.journal_links.LinkLines.{link_named, where_named}
use Rattle.journal_ends.specs.journal_packets.Belonging.{is_side}
use Rattle.journal_ends.specs.link_model.Step.{Step}
use Rattle.journal_ends.specs.link_model.keyed_control.Keyed.{Keyed}
use Rattle.journal_ends.specs.link_model.keyed_control.declared.material.Response.{Response}
use Rattle.journal_ends.specs.link_model.phased_control.Taken.{role_now}
use Rattle.journal_ends.specs.run_model.Readers.{of_side}
use Rattle.journal_ends.proofs.SeenEvents.{unanswered_in, unasked_in}
use Rattle.journal_ends.proofs.journal_acks.TwoStations.{same_number}
use Rattle.journal_controls.specs.SaidLines.{NoneOpens, is_opening, moved_by}
use Rattle.journal_controls.specs.Withheld.{Withheld}
use Rattle.journal_controls.specs.KeyedLines.{answering, has_next, keyed_by_all, keyed_forged}
use Rattle.journal_controls.specs.LineSteps.{keyed_begun, keyed_from, keyed_in_line, keyed_on, moved_in_line, steps_asking, steps_heard, steps_said, steps_seen, turn_now, withholds}

-- ---- a line more

from_more : (words : Words) (side : Side) (number : ℕ) (front : List Entry) (before : Option Keyed) (lines : List Entry) (line : Entry)
    → keyed_from words side number front before (lines ++ line ∷ []) ≡ keyed_in_line words side number (front ++ lines) (keyed_from words side number front before lines) line
from_more words side number front before [] line = ap (λ xs. keyed_in_line words side number xs before line) (sym (append-nil front))
from_more words side number front before (first ∷ lines) line =
    from_more words side number (front ++ first ∷ []) (keyed_in_line words side number front before first) lines line
    ∙ ap (λ xs. keyed_in_line words side number xs (keyed_from words side number (front ++ first ∷ []) (keyed_in_line words side number front before first) lines) line)
    (append_assoc front (first ∷ []) lines)

pub keyed_more : (words : Words) (side : Side) (number : ℕ) (journal : List Entry) (line : Entry)
    → keyed_on words side number (journal ++ line ∷ []) ≡ keyed_in_line words side number journal (keyed_on words side number journal) line
unfolding keyed_on
keyed_more words side number journal line = from_more words side number [] None journal line

-- ---- a line that neither opens the link at this side nor shuts it

moves : (words : Words) (side : Side) (number : ℕ) (front : List Entry) (before : Option Keyed) (line : Entry) → is_opening line ≡ false
    → keyed_in_line words side number front before line ≡ option_map (moved_in_line words side number front line) before
moves words side number front before (Opened other link handle role) is = absurd cc
moves words side number front before (Shut other link reason) is = absurd cc
moves words side number front before line is = refl

-- of another side, or of another link
opening_apart : (side other : Side) (same : Bool) (line : Entry) (now before : Option Keyed) → map Says (of_side side other (if same then line ∷ [] else [])) ≡ []
    → (if is_side other side && same then now else before) ≡ before
opening_apart A A true line now before none = absurd cc
opening_apart A A false line now before none = refl
opening_apart A B same line now before none = refl
opening_apart B A same line now before none = refl
opening_apart B B true line now before none = absurd cc
opening_apart B B false line now before none = refl

same_moved : (before : Option Keyed) (move : Keyed → Keyed) → ((k : Keyed) → move k ≡ k) → option_map move before ≡ before
same_moved None move same = refl
same_moved (Some k) move same = ap Some (same k)

-- what is seen of the end in a line, and what its host answers in it
lines_move : (words : Words) (side : Side) (number : ℕ) (front : List Entry) (line : Entry) (k : Keyed) (seen : List Seen) (answers : List Step)
    → seen_in_line words side number front line ≡ seen → answers_in_line words side number front line ≡ answers
    → moved_in_line words side number front line k ≡ keyed_by_all (flat_map answering answers ++ flat_map (steps_seen words side number front line k) seen) k
lines_move words side number front line k seen answers is replies =
    λ i. keyed_by_all (flat_map answering (replies i) ++ flat_map (steps_seen words side number front line k) (is i)) k

-- a line in which the end says and hears nothing, and in which its host asks and answers nothing
pub quiet_line : (words : Words) (side : Side) (number : ℕ) (front : List Entry) (before : Option Keyed) (line : Entry) → seen_in_line words side number front line ≡ []
    → answers_in_line words side number front line ≡ [] → keyed_in_line words side number front before line ≡ before
quiet_line words side number front before (Opened other link handle role) none unanswered =
    opening_apart side other (link == number) (Opened other link handle role) (keyed_begun (most_received_on side front) side (link_numbered number front)) before none
quiet_line words side number front before (Shut other link reason) none unanswered =
    opening_apart side other (link == number) (Shut other link reason) None before none
quiet_line words side number front before line none unanswered =
    same_moved before (moved_in_line words side number front line) (λ k. lines_move words side number front line k [] [] none unanswered)

-- ---- lines that an end says

pub moved_both : (withheld : Withheld) (response : Response) (slot : ℕ) (lines more : List Entry) (k : Keyed)
    → moved_by withheld response slot (lines ++ more) k ≡ moved_by withheld response slot more (moved_by withheld response slot lines k)
moved_both withheld response slot [] more k = refl
moved_both withheld response slot (line ∷ lines) more k = moved_both withheld response slot lines more (keyed_by_all (steps_said withheld response slot k line) k)

-- a line of its own
said_line : (words : Words) (side : Side) (number : ℕ) (front : List Entry) (line : Entry) (k : Keyed) → is_opening line ≡ false → seen_in_line words side number front line ≡ Says line ∷ []
    → answers_in_line words side number front line ≡ []
    → keyed_in_line words side number front (Some k) line ≡ Some (moved_by (withholds side front) (words side front) (turn_now front) (line ∷ []) k)
said_line words side number front line k opens is unanswered =
    moves words side number front (Some k) line opens
    ∙ ap Some (lines_move words side number front line k (Says line ∷ []) [] is unanswered)
    ∙ ap (λ steps. Some (keyed_by_all steps k)) (append-nil (steps_said (withholds side front) (words side front) (turn_now front) k line))

-- the line is of this side and of this link, or it is not
pub data IsNamed (line : Entry) (named : List Entry) : Type 0 where
  Own : named ≡ line ∷ [] → IsNamed line named
  Others : named ≡ [] → IsNamed line named

named_if : (side other : Side) (same : Bool) (line : Entry) → IsNamed line (of_side side other (if same then line ∷ [] else []))
named_if A A true line = Own refl
named_if A A false line = Others refl
named_if A B same line = Others refl
named_if B A same line = Others refl
named_if B B true line = Own refl
named_if B B false line = Others refl

pub named_by : (side : Side) (number : ℕ) (names : Option (Side × ℕ)) (line : Entry) → IsNamed line (where_named side number names line)
named_by side number None line = Others refl
named_by side number (Some named) line = named_if side named.0 (named.1 == number) line

-- a line in which the end hears nothing, and which accepts no command of its host
pub line_moves : (words : Words) (side : Side) (number : ℕ) (front : List Entry) (line : Entry) (k : Keyed) → heard_in_line side number front line ≡ []
    → accepted_in side front line ≡ [] → let named = where_named side number (link_named line) line in NoneOpens named
    → keyed_in_line words side number front (Some k) line ≡ Some (moved_by (withholds side front) (words side front) (turn_now front) named k)
line_moves words side number front line k deaf unaccepted opens = by (named_by side number (link_named line) line)
  where
    unasked : asked_in_line words side number front line ≡ []
    unasked = unasked_in words side number front line unaccepted

    unanswered : answers_in_line words side number front line ≡ []
    unanswered = unanswered_in words side number front line unaccepted

    by : IsNamed line (where_named side number (link_named line) line)
        → keyed_in_line words side number front (Some k) line ≡ Some (moved_by (withholds side front) (words side front) (turn_now front) (where_named side number (link_named line) line) k)
    by (Own is) =
        said_line words side number front line k (subst NoneOpens is opens).0 (λ i. unasked i ++ (deaf i ++ map Says (is i))) unanswered
        ∙ ap (λ lines. Some (moved_by (withholds side front) (words side front) (turn_now front) lines k)) (sym is)
    by (Others none) =
        quiet_line words side number front (Some k) line (λ i. unasked i ++ (deaf i ++ map Says (none i))) unanswered
        ∙ ap (λ lines. Some (moved_by (withholds side front) (words side front) (turn_now front) lines k)) (sym none)

-- ---- a good packet that the end hears

pub heard_line : (words : Words) (side : Side) (number : ℕ) (front : List Entry) (line : Entry) (k : Keyed) (slot : ℕ) (octets : List ℕ) → is_opening line ≡ false
    → seen_in_line words side number front line ≡ Hears slot octets ∷ [] → answers_in_line words side number front line ≡ []
    → keyed_in_line words side number front (Some k) line
    ≡ Some (keyed_by_all (steps_heard (role_now k.phased) slot (exchange_of number front side) (exchange_of number (front ++ line ∷ []) side) (carried_of number front side) (has_next k)) k)
heard_line words side number front line k slot octets opens is unanswered =
    moves words side number front (Some k) line opens
    ∙ ap Some (lines_move words side number front line k (Hears slot octets ∷ []) [] is unanswered)
    ∙ ap (λ steps. Some (keyed_by_all steps k))
    (append-nil (steps_heard (role_now k.phased) slot (exchange_of number front side) (exchange_of number (front ++ line ∷ []) side) (carried_of number front side) (has_next k)))

-- a forged one
pub forged_line : (words : Words) (side : Side) (number : ℕ) (front : List Entry) (line : Entry) (k : Keyed) → is_opening line ≡ false
    → seen_in_line words side number front line ≡ HearsForged ∷ [] → answers_in_line words side number front line ≡ []
    → keyed_in_line words side number front (Some k) line ≡ Some (keyed_forged k)
forged_line words side number front line k opens is unanswered =
    moves words side number front (Some k) line opens
    ∙ ap Some (lines_move words side number front line k (HearsForged ∷ []) [] is unanswered)

-- ---- what its host asks

-- no line that opens a link or shuts it
named_unasked : (line : Entry) (named : List Entry) (step : Step) → IsNamed line named → map Says named ≡ Asks step ∷ [] → ⊥
named_unasked line named step (Own is) asked = absurd (let h : Says line ∷ [] ≡ Asks step ∷ [] = ap (map Says) (sym is) ∙ asked in absurd cc)
named_unasked line named step (Others none) asked = absurd (let h : [] ≡ Asks step ∷ [] = ap (map Says) (sym none) ∙ asked in absurd cc)

opening_unasked : (words : Words) (side : Side) (number : ℕ) (front : List Entry) (line : Entry) (step : Step) → seen_in_line words side number front line ≡ Asks step ∷ []
    → is_opening line ≡ false
opening_unasked words side number front (Opened other link handle role) step asked =
    absurd (named_unasked (Opened other link handle role) _ step (named_by side number (Some (other, link)) (Opened other link handle role)) asked)
opening_unasked words side number front (Shut other link reason) step asked =
    absurd (named_unasked (Shut other link reason) _ step (named_by side number (Some (other, link)) (Shut other link reason)) asked)
opening_unasked words side number front line step asked = refl

pub asked_line : (words : Words) (side : Side) (number : ℕ) (front : List Entry) (line : Entry) (k : Keyed) (step : Step) → seen_in_line words side number front line ≡ Asks step ∷ []
    → answers_in_line words side number front line ≡ [] → keyed_in_line words side number front (Some k) line ≡ Some (keyed_by_all (steps_asking k step) k)
asked_line words side number front line k step is unanswered =
    moves words side number front (Some k) line (opening_unasked words side number front line step is)
    ∙ ap Some (lines_move words side number front line k (Asks step ∷ []) [] is unanswered)
    ∙ ap (λ steps. Some (keyed_by_all steps k)) (append-nil (steps_asking k step))

-- ---- what its host answers the peer

pub opening_unanswered : (words : Words) (side : Side) (number : ℕ) (front : List Entry) (line : Entry) (answer : Step) → answers_in_line words side number front line ≡ answer ∷ []
    → is_opening line ≡ false
opening_unanswered words side number front (Opened other link handle role) answer is = absurd cc
opening_unanswered words side number front (Shut other link reason) answer is = absurd cc
opening_unanswered words side number front line answer is = refl

pub answered_line : (words : Words) (side : Side) (number : ℕ) (front : List Entry) (line : Entry) (k : Keyed) (answer : Step) → seen_in_line words side number front line ≡ []
    → answers_in_line words side number front line ≡ answer ∷ [] → keyed_in_line words side number front (Some k) line ≡ Some (keyed_by_all (answering answer) k)
answered_line words side number front line k answer none is =
    moves words side number front (Some k) line (opening_unanswered words side number front line answer is)
    ∙ ap Some (lines_move words side number front line k [] (answer ∷ []) none is)
    ∙ ap (λ steps. Some (keyed_by_all steps k)) (append-nil (answering answer ++ []) ∙ append-nil (answering answer))

-- ---- the line that opens the link

pub opened_line : (words : Words) (side : Side) (number handle : ℕ) (role : Role) (front : List Entry) (before : Option Keyed) (link : LinkBegun) → link_numbered number front ≡ Some link
    → keyed_in_line words side number front before (Opened side number handle role) ≡ keyed_begun (most_received_on side front) side (Some link)
opened_line words side number handle role front before link is =
    ap (λ b. if b then keyed_begun (most_received_on side front) side (link_numbered number front) else before) (λ i. own_side side i && same_number number i) ∙ ap (keyed_begun (most_received_on side front) side) is
  where
    own_side : (one : Side) → is_side one one ≡ true
    own_side A = refl
    own_side B = refl
