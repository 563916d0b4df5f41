-- How an end is to leave its link, by a journal with one line more.
use Rattle.std.proofs.Common.{◌≡◌, ℕ, ◌==◌, ◌&&◌, Bool, true, false, Option, Some, None, List, [], ◌∷◌, ◌++◌, fold, map, refl, sym, ap, subst, ◌∙◌, append-nil, append_assoc, if◌then◌else◌}
use Rattle.std.specs.Option.{option_map}
use Rattle.ble_base.specs.Side.{other_side}
use Rattle.ble_base.specs.declared.error_codes.ErrCode.{ErrCode}
use Rattle.ble_base.specs.declared.roles.Role.{Role}
use Rattle.ble_base.specs.declared.roles.Side.{Side}
use Rattle.ble_base.specs.declared.roles.Side.TheVariants.{A, B}
use Rattle.journal.specs.declared.entries.Entry.{Entry}
use Rattle.journal.specs.declared.entries.Entry.TheVariants.{Air, Opened, Shut}
use Rattle.journal.specs.declared.entries.Mark.{Mark}
use Rattle.ble_base.specs.declared.verdicts.Verdict.{Verdict}
use Rattle.journal_controls.specs.Withheld.{Withheld}
use Rattle.journal_controls.specs.KeyedLines.{keyed_by_all}
use Rattle.journal_controls.specs.LineSteps.{is_more_acked, keyed_on, steps_said, turn_now, withholds}
use Rattle.journal_controls.specs.SaidLines.{NoneOpens, is_opening, moved_by}
use Rattle.journal_controls.specs.journal_acks.Carried.{carried_of}
use Rattle.journal_controls.specs.journal_acks.Exchange.{exchange_of}
use Rattle.journal_controls.specs.journal_acks.Shut.{is_of_link}
use Rattle.journal_controls.specs.host_answers.Answered.{accepted_in}
use Rattle.journal_controls.specs.journal_ends.Answering.{answers_in_line}
use Rattle.journal_controls.specs.journal_ends.Asked.{Words}
use Rattle.journal_controls.specs.journal_ends.Seen.{Asks, Hears, HearsForged, Says, Seen, asked_in_line, heard_in_line, heard_where, is_heard_on, seen_in_line}
use Rattle.journal_controls.specs.journal_links.LinkLines.{link_named, where_named}
use Rattle.journal_controls.specs.journal_packets.Belonging.{is_side}
use Rattle.journal_controls.specs.link_model.Facts.{stays}
use Rattle.journal_controls.specs.link_model.Receiving.{leaving_acked_if}
use Rattle.journal_controls.specs.link_model.Sending.{leaving_sent}
use Rattle.journal_controls.specs.link_model.Step.{Step}
use Rattle.journal_controls.specs.link_model.declared.state.Leaving.{Leaving}
use Rattle.journal_controls.specs.link_model.keyed_control.Keyed.{Keyed}
use Rattle.journal_controls.specs.link_model.keyed_control.declared.material.Response.{Response}
use Rattle.journal_controls.specs.run_model.Readers.{of_side}
use Rattle.journal_controls.proofs.LineFolds.{IsNamed, Others, Own, named_by, opening_unanswered}
use Rattle.journal_controls.proofs.journal_acks.TwoStations.{same_number}
use Rattle.journal_controls.proofs.journal_ends.SeenEvents.{unanswered_in, unasked_in}
use Rattle.journal_leaving.specs.Lacking.{leaving_answered, leaving_answering}
use Rattle.journal_leaving.specs.Leaving.{acks_terminate, is_own_packet, leaving_after, leaving_asking, leaving_from, leaving_moved, leaving_on, leaving_saying, leaving_seen, leaving_sent_if}
use Rattle.journal_leaving.specs.Said.{leaving_said}

-- ---- a line more

from_more : (words : Words) (side : Side) (number : ℕ) (front : List Entry) (before : Option Leaving) (lines : List Entry) (line : Entry)
    → leaving_from words side number front before (lines ++ line ∷ []) ≡ leaving_after words side number (front ++ lines) (leaving_from words side number front before lines) line
from_more words side number front before [] line = ap (λ xs. leaving_after words side number xs before line) (sym (append-nil front))
from_more words side number front before (first ∷ lines) line =
    from_more words side number (front ++ first ∷ []) (leaving_after words side number front before first) lines line
    ∙ ap (λ xs. leaving_after words side number xs (leaving_from words side number (front ++ first ∷ []) (leaving_after words side number front before first) lines) line)
    (append_assoc front (first ∷ []) lines)

pub leaving_more : (words : Words) (side : Side) (number : ℕ) (journal : List Entry) (line : Entry)
    → leaving_on words side number (journal ++ line ∷ []) ≡ leaving_after words side number journal (leaving_on words side number journal) line
unfolding leaving_on
leaving_more words side number journal line = from_more words side number [] None journal line

-- ---- a line that neither opens the link at this side nor shuts it

moves : (words : Words) (side : Side) (number : ℕ) (front : List Entry) (before : Option Leaving) (line : Entry) → is_opening line ≡ false
    → leaving_after words side number front before line ≡ option_map (leaving_moved words side number front line) before
moves words side number front before (Opened other link handle role) is = absurd cc
moves words side number front before (Shut other link reason) is = absurd cc
moves words side number front before line is = refl

-- of another side, or of another link
opening_apart : (side other : Side) (same : Bool) (line : Entry) (now before : Option Leaving) → map Says (of_side side other (if same then line ∷ [] else [])) ≡ []
    → (if is_side other side && same then now else before) ≡ before
opening_apart A A true line now before none = absurd cc
opening_apart A A false line now before none = refl
opening_apart A B same line now before none = refl
opening_apart B A same line now before none = refl
opening_apart B B true line now before none = absurd cc
opening_apart B B false line now before none = refl

same_moved : (before : Option Leaving) (move : Leaving → Leaving) → ((l : Leaving) → move l ≡ l) → option_map move before ≡ before
same_moved None move same = refl
same_moved (Some l) move same = ap Some (same l)

-- a line in which the end says and hears nothing and sends nothing, and in which its host answers nothing
pub quiet_line : (words : Words) (side : Side) (number : ℕ) (front : List Entry) (before : Option Leaving) (line : Entry) → seen_in_line words side number front line ≡ []
    → answers_in_line words side number front line ≡ [] → is_own_packet side number front line ≡ false → leaving_after words side number front before line ≡ before
quiet_line words side number front before (Opened other link handle role) none unanswered own =
    opening_apart side other (link == number) (Opened other link handle role) (Some stays) before none
quiet_line words side number front before (Shut other link reason) none unanswered own =
    opening_apart side other (link == number) (Shut other link reason) None before none
quiet_line words side number front before line none unanswered own =
    same_moved before (leaving_moved words side number front line) (λ l i.
    fold (leaving_seen words side number front line) (leaving_answered (keyed_on words side number front) (unanswered i) (leaving_sent_if (own i) l)) (none i))

-- an end that stays, and says and hears nothing, stays: it may send
pub sent_stays : (sends : Bool) → leaving_sent_if sends stays ≡ stays
sent_stays true = refl
sent_stays false = refl

pub stays_line : (words : Words) (side : Side) (number : ℕ) (front : List Entry) (line : Entry) → seen_in_line words side number front line ≡ []
    → answers_in_line words side number front line ≡ [] → leaving_after words side number front (Some stays) line ≡ Some stays
stays_line words side number front (Opened other link handle role) none unanswered =
    opening_apart side other (link == number) (Opened other link handle role) (Some stays) (Some stays) none
stays_line words side number front (Shut other link reason) none unanswered = opening_apart side other (link == number) (Shut other link reason) None (Some stays) none
stays_line words side number front line none unanswered =
    (λ i. Some (fold (leaving_seen words side number front line)
    (leaving_answered (keyed_on words side number front) (unanswered i) (leaving_sent_if (is_own_packet side number front line) stays)) (none i)))
    ∙ ap Some (sent_stays (is_own_packet side number front line))

-- ---- lines that an end says

pub said_both : (withheld : Withheld) (response : Response) (slot : ℕ) (lines more : List Entry) (k : Keyed) (l : Leaving)
    → leaving_said withheld response slot (lines ++ more) k l ≡ leaving_said withheld response slot more (moved_by withheld response slot lines k) (leaving_said withheld response slot lines k l)
said_both withheld response slot [] more k l = refl
said_both withheld response slot (line ∷ lines) more k l =
    said_both withheld response slot lines more (keyed_by_all (steps_said withheld response slot k line) k) (leaving_saying withheld response slot (Some k) l line)

module _ (words : Words) (side : Side) (number : ℕ) (front : List Entry) (line : Entry) (k : Keyed) (l : Leaving) (own : is_own_packet side number front line ≡ false)
    (unanswered : answers_in_line words side number front line ≡ []) (keyed : keyed_on words side number front ≡ Some k) where
  -- a line of its own
  said_line : is_opening line ≡ false → seen_in_line words side number front line ≡ Says line ∷ []
      → leaving_after words side number front (Some l) line ≡ Some (leaving_said (withholds side front) (words side front) (turn_now front) (line ∷ []) k l)
  said_line opens is =
      moves words side number front (Some l) line opens
      ∙ (λ i. Some (fold (leaving_seen words side number front line)
      (leaving_answered (keyed_on words side number front) (unanswered i) (leaving_sent_if (own i) l)) (is i)))
      ∙ ap (λ one. Some (leaving_saying (withholds side front) (words side front) (turn_now front) one l line)) keyed

-- a line in which the end hears and sends nothing, and by which its host asks and answers nothing
pub line_moves : (words : Words) (side : Side) (number : ℕ) (front : List Entry) (line : Entry) (k : Keyed) (l : Leaving) → heard_in_line side number front line ≡ []
    → accepted_in side front line ≡ [] → is_own_packet side number front line ≡ false → let named = where_named side number (link_named line) line in NoneOpens named → keyed_on words side number front ≡ Some k
    → leaving_after words side number front (Some l) line ≡ Some (leaving_said (withholds side front) (words side front) (turn_now front) named k l)
line_moves words side number front line k l deaf unaccepted own opens keyed = by (named_by side number (link_named line) line)
  where
    unasked : asked_in_line words side number front line ≡ []
    unasked = unasked_in words side number front line unaccepted

    unanswered : answers_in_line words side number front line ≡ []
    unanswered = unanswered_in words side number front line unaccepted

    by : IsNamed line (where_named side number (link_named line) line)
        → leaving_after words side number front (Some l) line ≡ Some (leaving_said (withholds side front) (words side front) (turn_now front) (where_named side number (link_named line) line) k l)
    by (Own is) =
        said_line words side number front line k l own unanswered keyed (subst NoneOpens is opens).0 (λ i. unasked i ++ (deaf i ++ map Says (is i)))
        ∙ ap (λ lines. Some (leaving_said (withholds side front) (words side front) (turn_now front) lines k l)) (sym is)
    by (Others none) =
        quiet_line words side number front (Some l) line (λ i. unasked i ++ (deaf i ++ map Says (none i))) unanswered own ∙ ap (λ lines. Some (leaving_said (withholds side front) (words side front) (turn_now front) lines k l)) (sym none)

-- ---- a packet that the end hears, and one that it sends

own_deaf : (is_of heard : Bool) (verdict : Verdict) (sender side : Side) (slot : ℕ) (octets : List ℕ) → (is_of && is_side sender side) ≡ true
    → heard_where (heard && is_side sender (other_side side)) verdict slot octets ≡ []
own_deaf false heard verdict sender side slot octets own = absurd cc
own_deaf true true verdict A A slot octets own = refl
own_deaf true false verdict A A slot octets own = refl
own_deaf true heard verdict A B slot octets own = absurd cc
own_deaf true heard verdict B A slot octets own = absurd cc
own_deaf true true verdict B B slot octets own = refl
own_deaf true false verdict B B slot octets own = refl

heard_apart : (is_of heard : Bool) (verdict : Verdict) (sender side : Side) (slot : ℕ) (octets : List ℕ) (one : Seen)
    → heard_where (heard && is_side sender (other_side side)) verdict slot octets ≡ one ∷ [] → (is_of && is_side sender side) ≡ false
heard_apart false heard verdict sender side slot octets one is = refl
heard_apart true false verdict sender side slot octets one is = absurd cc
heard_apart true true verdict A A slot octets one is = absurd cc
heard_apart true true verdict A B slot octets one is = refl
heard_apart true true verdict B A slot octets one is = refl
heard_apart true true verdict B B slot octets one is = absurd cc

module _ (words : Words) (side : Side) (number : ℕ) (front : List Entry) (sender : Side) (channel : ℕ) (octets : List ℕ) (fate : Mark) (verdict : Verdict) where
  abbrev air : Entry
  air = Air sender channel octets fate verdict

  -- the end hears it
  pub heard_line : (l : Leaving) (slot : ℕ) (heard : List ℕ) → heard_in_line side number front air ≡ Hears slot heard ∷ []
      → leaving_after words side number front (Some l) air
      ≡ Some (leaving_acked_if (acks_terminate (is_more_acked (exchange_of number front side) (exchange_of number (front ++ air ∷ []) side)) (carried_of number front side)) l)
  heard_line l slot heard is =
      let own = heard_apart (is_of_link number front sender channel octets) (is_heard_on number front sender channel octets fate verdict) verdict sender side (turn_now front) octets (Hears slot heard) is in
      λ i. Some (fold (leaving_seen words side number front air) (leaving_sent_if (own i) l) (is i ++ []))

  -- and judges it forged
  pub forged_line : (l : Leaving) → heard_in_line side number front air ≡ HearsForged ∷ [] → leaving_after words side number front (Some l) air ≡ Some l
  forged_line l is =
      let own = heard_apart (is_of_link number front sender channel octets) (is_heard_on number front sender channel octets fate verdict) verdict sender side (turn_now front) octets HearsForged is in
      λ i. Some (fold (leaving_seen words side number front air) (leaving_sent_if (own i) l) (is i ++ []))

  -- the end sends it
  pub own_line : (l : Leaving) → is_own_packet side number front air ≡ true → leaving_after words side number front (Some l) air ≡ Some (leaving_sent l)
  own_line l own =
      let deaf = own_deaf (is_of_link number front sender channel octets) (is_heard_on number front sender channel octets fate verdict) verdict sender side (turn_now front) octets own in
      λ i. Some (fold (leaving_seen words side number front air) (leaving_sent_if (own i) l) (deaf i ++ []))

-- ---- what its host asks

-- no line that opens a link or shuts it asks
named_unasked : (line : Entry) (named : List Entry) (step : Step) → IsNamed line named → map Says named ≡ Asks step ∷ [] → ⊥
named_unasked line named step (Own is) asked = absurd (let h : Says line ∷ [] ≡ Asks step ∷ [] = ap (map Says) (sym is) ∙ asked in absurd cc)
named_unasked line named step (Others none) asked = absurd (let h : [] ≡ Asks step ∷ [] = ap (map Says) (sym none) ∙ asked in absurd cc)

opening_unasked : (words : Words) (side : Side) (number : ℕ) (front : List Entry) (line : Entry) (step : Step) → seen_in_line words side number front line ≡ Asks step ∷ []
    → is_opening line ≡ false
opening_unasked words side number front (Opened other link handle role) step asked =
    absurd (named_unasked (Opened other link handle role) _ step (named_by side number (Some (other, link)) (Opened other link handle role)) asked)
opening_unasked words side number front (Shut other link reason) step asked =
    absurd (named_unasked (Shut other link reason) _ step (named_by side number (Some (other, link)) (Shut other link reason)) asked)
opening_unasked words side number front line step asked = refl

pub asked_line : (words : Words) (side : Side) (number : ℕ) (front : List Entry) (line : Entry) (l : Leaving) (step : Step) → is_own_packet side number front line ≡ false
    → seen_in_line words side number front line ≡ Asks step ∷ [] → answers_in_line words side number front line ≡ []
    → leaving_after words side number front (Some l) line ≡ Some (leaving_asking step l)
asked_line words side number front line l step own is unanswered =
    moves words side number front (Some l) line (opening_unasked words side number front line step is)
    ∙ (λ i. Some (fold (leaving_seen words side number front line)
    (leaving_answered (keyed_on words side number front) (unanswered i) (leaving_sent_if (own i) l)) (is i)))

-- ---- what its host answers

pub answered_line : (words : Words) (side : Side) (number : ℕ) (front : List Entry) (line : Entry) (k : Keyed) (l : Leaving) (answer : Step)
    → is_own_packet side number front line ≡ false → seen_in_line words side number front line ≡ [] → answers_in_line words side number front line ≡ answer ∷ []
    → keyed_on words side number front ≡ Some k → leaving_after words side number front (Some l) line ≡ Some (leaving_answering k l answer)
answered_line words side number front line k l answer own none is keyed =
    moves words side number front (Some l) line (opening_unanswered words side number front line answer is)
    ∙ (λ i. Some (fold (leaving_seen words side number front line) (leaving_answered (keyed i) (is i) (leaving_sent_if (own i) l)) (none i)))

-- ---- the lines that open the link and shut it

own_side : (one : Side) → is_side one one ≡ true
own_side A = refl
own_side B = refl

pub opened_line : (words : Words) (side : Side) (number handle : ℕ) (role : Role) (front : List Entry) (before : Option Leaving)
    → leaving_after words side number front before (Opened side number handle role) ≡ Some stays
opened_line words side number handle role front before = ap (λ b. if b then Some stays else before) (λ i. own_side side i && same_number number i)

pub shut_line : (words : Words) (side : Side) (number : ℕ) (reason : ErrCode) (front : List Entry) (before : Option Leaving)
    → leaving_after words side number front before (Shut side number reason) ≡ None
shut_line words side number reason front before = ap (λ b. if b then None else before) (λ i. own_side side i && same_number number i)
