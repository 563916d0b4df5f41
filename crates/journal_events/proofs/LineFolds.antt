-- The event of an end by a journal with one line more.
use Rattle.std.proofs.Common.{◌≡◌, ℕ, ◌==◌, ◌&&◌, Bool, true, false, Some, List, [], ◌∷◌, ◌++◌, map, refl, sym, ap, subst, ◌∙◌, append-nil, append_assoc, if◌then◌else◌}
use Rattle.ble_base.specs.Side.{other_side}
use Rattle.ble_base.specs.declared.roles.Role.{Role}
use Rattle.ble_base.specs.declared.roles.Side.{Side}
use Rattle.ble_base.specs.declared.roles.Side.TheVariants.{A, B}
use Rattle.ble_base.specs.declared.verdicts.Verdict.{Verdict}
use Rattle.ble_base.specs.declared.verdicts.Verdict.TheVariants.{Broken, Forged, Good, Missed}
use Rattle.journal.specs.declared.entries.Entry.{Entry}
use Rattle.journal.specs.declared.entries.Entry.TheVariants.{Air, Enter, Opened}
use Rattle.journal.specs.declared.entries.Mark.{Mark}
use Rattle.journal_slots.specs.SecondSlot.{has_more}
use Rattle.journal_sending.specs.journal_leaving.Leaving.{is_own_packet}
use Rattle.journal_sending.specs.journal_leaving.journal_acks.Carried.{carried_of}
use Rattle.journal_sending.specs.journal_leaving.journal_acks.Exchange.{Exchanged, exchange_of}
use Rattle.journal_sending.specs.journal_leaving.journal_acks.Shut.{is_of_link}
use Rattle.journal_sending.specs.journal_leaving.journal_controls.KeyedLines.{Does, Forges, has_next, keyed_by_all, keyed_forged}
use Rattle.journal_sending.specs.journal_leaving.journal_controls.LineSteps.{answers_with, is_more_acked, keyed_in_line, keyed_on, steps_heard, steps_said, turn_now, withholds}
use Rattle.journal_sending.specs.journal_leaving.journal_controls.SaidLines.{NoneOpens, is_opening, moved_by}
use Rattle.journal_sending.specs.journal_leaving.journal_controls.Withheld.{Withheld}
use Rattle.journal_sending.specs.journal_leaving.journal_controls.host_answers.Answered.{accepted_in}
use Rattle.journal_sending.specs.journal_leaving.journal_ends.Answering.{answers_in_line}
use Rattle.journal_sending.specs.journal_leaving.journal_ends.Asked.{Words}
use Rattle.journal_sending.specs.journal_leaving.journal_ends.Seen.{Asks, Hears, HearsForged, Says, asked_in_line, heard_in_line, heard_where, is_heard_on, seen_in_line}
use Rattle.journal_sending.specs.journal_leaving.journal_links.LinkLines.{link_named, where_named}
use Rattle.journal_sending.specs.journal_leaving.journal_packets.Belonging.{is_side}
use Rattle.journal_sending.specs.journal_leaving.link_model.Acknowledgement.{Pdu}
use Rattle.journal_sending.specs.journal_leaving.link_model.Data.{is_control}
use Rattle.journal_sending.specs.journal_leaving.link_model.Step.{Step}
use Rattle.journal_sending.specs.journal_leaving.link_model.keyed_control.Keyed.{Keyed}
use Rattle.journal_sending.specs.journal_leaving.link_model.keyed_control.KeyedSteps.{SeesAcknowledged, Sends}
use Rattle.journal_sending.specs.journal_leaving.link_model.keyed_control.declared.material.Response.{Response}
use Rattle.journal_sending.specs.journal_leaving.link_model.phased_control.Taken.{role_now}
use Rattle.journal_sending.specs.journal_leaving.run_model.History.{is_good}
use Rattle.journal_sending.specs.journal_leaving.run_model.Readers.{of_side}
use Rattle.journal_sending.proofs.journal_leaving.OtherLines.{is_other}
use Rattle.journal_sending.proofs.journal_leaving.journal_controls.LineFolds.{IsNamed, Others, Own, forged_line as forged_keyed, heard_line as heard_keyed, keyed_more, line_moves as line_keyed, named_by, quiet_line as quiet_keyed}
use Rattle.journal_sending.proofs.journal_leaving.journal_acks.TwoStations.{same_number}
use Rattle.journal_sending.proofs.journal_leaving.journal_ends.SeenEvents.{unanswered_in, unasked_in}
use Rattle.journal_events.specs.EventLines.{EventLines, changed_if, event_after, event_entering, event_from, event_hearing, event_on, event_passed, event_passing, event_sending, lengths_differ, no_event_lines}
use Rattle.journal_events.specs.Told.{event_said, event_saying}
use Rattle.journal_events.proofs.EndEvents.{any_still, still}
use Rattle.journal_events.proofs.KeptLengths.{AllLeave, if_leaves, steps_leave}

-- ---- a line more

from_more : (words : Words) (side : Side) (number : ℕ) (front : List Entry) (before : EventLines) (lines : List Entry) (line : Entry)
    → event_from words side number front before (lines ++ line ∷ []) ≡ event_after words side number (front ++ lines) (event_from words side number front before lines) line
from_more words side number front before [] line = ap (λ xs. event_after words side number xs before line) (sym (append-nil front))
from_more words side number front before (first ∷ lines) line =
    from_more words side number (front ++ first ∷ []) (event_after words side number front before first) lines line
    ∙ ap (λ xs. event_after words side number xs (event_from words side number (front ++ first ∷ []) (event_after words side number front before first) lines) line)
    (append_assoc front (first ∷ []) lines)

pub event_more : (words : Words) (side : Side) (number : ℕ) (journal : List Entry) (line : Entry)
    → event_on words side number (journal ++ line ∷ []) ≡ event_after words side number journal (event_on words side number journal) line
unfolding event_on
event_more words side number journal line = from_more words side number [] no_event_lines journal line

-- several lines more
pub from_both : (words : Words) (side : Side) (number : ℕ) (front first second : List Entry) (before : EventLines)
    → event_from words side number front before (first ++ second) ≡ event_from words side number (front ++ first) (event_from words side number front before first) second
from_both words side number front [] second before = ap (λ xs. event_from words side number xs before second) (sym (append-nil front))
from_both words side number front (line ∷ first) second before =
    let next = event_after words side number front before line in
    from_both words side number (front ++ line ∷ []) first second next
    ∙ ap (λ xs. event_from words side number xs (event_from words side number (front ++ line ∷ []) next first) second) (append_assoc front (line ∷ []) first)

pub on_both : (words : Words) (side : Side) (number : ℕ) (first second : List Entry)
    → event_on words side number (first ++ second) ≡ event_from words side number first (event_on words side number first) second
unfolding event_on
on_both words side number first second = from_both words side number [] first second no_event_lines

-- ---- a packet in a line, by what the end hears

air_none : (is_of : Bool) (sender side : Side) (slot : ℕ) (octets : List ℕ) (more : Bool) (before : EventLines) → (is_of && is_side sender side) ≡ false
    → heard_where (is_of && is_side sender (other_side side)) Good slot octets ≡ []
    → (if is_of then event_passing slot (is_side sender side) true more before else before) ≡ before
air_none false sender side slot octets more before own none = refl
air_none true A A slot octets more before own none = absurd cc
air_none true B B slot octets more before own none = absurd cc
air_none true A B slot octets more before own none = absurd cc
air_none true B A slot octets more before own none = absurd cc

-- one that is not good
air_bad : (is_of : Bool) (sender side : Side) (slot : ℕ) (more : Bool) (before : EventLines) → (is_of && is_side sender side) ≡ false
    → (if is_of then event_passing slot (is_side sender side) false more before else before) ≡ before
air_bad false sender side slot more before own = refl
air_bad true A A slot more before own = absurd cc
air_bad true B B slot more before own = absurd cc
air_bad true A B slot more before own = refl
air_bad true B A slot more before own = refl

-- it neither hears nor sends one
pub passed_none : (side : Side) (number : ℕ) (front : List Entry) (before : EventLines) (line : Entry) → heard_in_line side number front line ≡ []
    → is_own_packet side number front line ≡ false → event_passed side number front before line ≡ before
passed_none side number front before (Air sender channel octets fate Good) deaf own =
    air_none (is_of_link number front sender channel octets) sender side (turn_now front) octets (has_more channel octets) before own deaf
passed_none side number front before (Air sender channel octets fate Forged) deaf own =
    air_bad (is_of_link number front sender channel octets) sender side (turn_now front) (has_more channel octets) before own
passed_none side number front before (Air sender channel octets fate Missed) deaf own =
    air_bad (is_of_link number front sender channel octets) sender side (turn_now front) (has_more channel octets) before own
passed_none side number front before (Air sender channel octets fate Broken) deaf own =
    air_bad (is_of_link number front sender channel octets) sender side (turn_now front) (has_more channel octets) before own
passed_none side number front before line deaf own = refl

air_heard : (is_of : Bool) (sender side : Side) (now slot : ℕ) (octets heard : List ℕ) (more : Bool) (before : EventLines)
    → heard_where (is_of && is_side sender (other_side side)) Good now octets ≡ Hears slot heard ∷ []
    → (if is_of then event_passing now (is_side sender side) true more before else before) ≡ event_hearing slot more before
air_heard false sender side now slot octets heard more before is = absurd cc
air_heard true A A now slot octets heard more before is = absurd cc
air_heard true B B now slot octets heard more before is = absurd cc
air_heard true A B now slot octets heard more before is =
    let whole : Hears now octets ∷ [] ≡ Hears slot heard ∷ [] = is in
    let same : now ≡ slot = cc in ap (λ n. event_hearing n more before) same
air_heard true B A now slot octets heard more before is =
    let whole : Hears now octets ∷ [] ≡ Hears slot heard ∷ [] = is in
    let same : now ≡ slot = cc in ap (λ n. event_hearing n more before) same

none_heard : (ours : Bool) (verdict : Verdict) (now slot : ℕ) (octets heard : List ℕ) → is_good verdict ≡ false → heard_where ours verdict now octets ≡ Hears slot heard ∷ [] → ⊥
none_heard false verdict now slot octets heard bad is = absurd cc
none_heard true Good now slot octets heard bad is = absurd cc
none_heard true Forged now slot octets heard bad is = absurd cc
none_heard true Missed now slot octets heard bad is = absurd cc
none_heard true Broken now slot octets heard bad is = absurd cc

none_forged : (ours : Bool) (verdict : Verdict) (now : ℕ) (octets : List ℕ) → (verdict ≡ Forged → ⊥) → heard_where ours verdict now octets ≡ HearsForged ∷ [] → ⊥
none_forged false verdict now octets other is = absurd cc
none_forged true Good now octets other is = absurd cc
none_forged true Forged now octets other is = other refl
none_forged true Missed now octets other is = absurd cc
none_forged true Broken now octets other is = absurd cc

air_forged : (is_of heard : Bool) (sender side : Side) (slot : ℕ) (octets : List ℕ) (more : Bool) (before : EventLines)
    → heard_where (heard && is_side sender (other_side side)) Forged slot octets ≡ HearsForged ∷ []
    → (if is_of then event_passing slot (is_side sender side) false more before else before) ≡ before
air_forged is_of false sender side slot octets more before is = absurd cc
air_forged is_of true A A slot octets more before is = absurd cc
air_forged is_of true B B slot octets more before is = absurd cc
air_forged true true A B slot octets more before is = refl
air_forged false true A B slot octets more before is = refl
air_forged true true B A slot octets more before is = refl
air_forged false true B A slot octets more before is = refl

air_own : (is_of : Bool) (verdict : Verdict) (sender side : Side) (slot : ℕ) (more : Bool) (before : EventLines) → (is_of && is_side sender side) ≡ true
    → (if is_of then event_passing slot (is_side sender side) (is_good verdict) more before else before) ≡ event_sending slot more before
air_own false verdict sender side slot more before own = absurd cc
air_own true verdict A A slot more before own = refl
air_own true verdict A B slot more before own = absurd cc
air_own true verdict B A slot more before own = absurd cc
air_own true verdict B B slot more before own = refl

own_deaf : (is_of heard : Bool) (verdict : Verdict) (sender side : Side) (slot : ℕ) (octets : List ℕ) → (is_of && is_side sender side) ≡ true
    → heard_where (heard && is_side sender (other_side side)) verdict slot octets ≡ []
own_deaf false heard verdict sender side slot octets own = absurd cc
own_deaf true true verdict A A slot octets own = refl
own_deaf true false verdict A A slot octets own = refl
own_deaf true heard verdict A B slot octets own = absurd cc
own_deaf true heard verdict B A slot octets own = absurd cc
own_deaf true true verdict B B slot octets own = refl
own_deaf true false verdict B B slot octets own = refl

module _ (side : Side) (number : ℕ) (front : List Entry) (before : EventLines) (sender : Side) (channel : ℕ) (octets : List ℕ) (fate : Mark) where
  abbrev of : Bool
  of = is_of_link number front sender channel octets

  -- it hears one
  passed_heard : (verdict : Verdict) (slot : ℕ) (heard : List ℕ) → heard_in_line side number front (Air sender channel octets fate verdict) ≡ Hears slot heard ∷ []
      → event_passed side number front before (Air sender channel octets fate verdict) ≡ event_hearing slot (has_more channel octets) before
  passed_heard Good slot heard is = air_heard of sender side (turn_now front) slot octets heard (has_more channel octets) before is
  passed_heard Forged slot heard is = absurd (none_heard (is_heard_on number front sender channel octets fate Forged && is_side sender (other_side side)) Forged (turn_now front) slot octets heard refl is)
  passed_heard Missed slot heard is = absurd (none_heard (is_heard_on number front sender channel octets fate Missed && is_side sender (other_side side)) Missed (turn_now front) slot octets heard refl is)
  passed_heard Broken slot heard is = absurd (none_heard (is_heard_on number front sender channel octets fate Broken && is_side sender (other_side side)) Broken (turn_now front) slot octets heard refl is)

  -- and judges it forged
  passed_forged : (verdict : Verdict) → heard_in_line side number front (Air sender channel octets fate verdict) ≡ HearsForged ∷ []
      → event_passed side number front before (Air sender channel octets fate verdict) ≡ before
  passed_forged Good is = absurd (none_forged (is_heard_on number front sender channel octets fate Good && is_side sender (other_side side)) Good (turn_now front) octets (λ other. absurd cc) is)
  passed_forged Forged is =
      air_forged of (is_heard_on number front sender channel octets fate Forged) sender side (turn_now front) octets (has_more channel octets) before is
  passed_forged Missed is = absurd (none_forged (is_heard_on number front sender channel octets fate Missed && is_side sender (other_side side)) Missed (turn_now front) octets (λ other. absurd cc) is)
  passed_forged Broken is = absurd (none_forged (is_heard_on number front sender channel octets fate Broken && is_side sender (other_side side)) Broken (turn_now front) octets (λ other. absurd cc) is)

-- ---- a line that opens the link, or of an event that is entered

line_apart : (side other : Side) (same : Bool) (line : Entry) (now before : EventLines) → map Says (of_side side other (if same then line ∷ [] else [])) ≡ []
    → (if is_side other side && same then now else before) ≡ before
line_apart A A true line now before none = absurd cc
line_apart A A false line now before none = refl
line_apart A B same line now before none = refl
line_apart B A same line now before none = refl
line_apart B B true line now before none = absurd cc
line_apart B B false line now before none = refl

line_own : (side other : Side) (same : Bool) (line : Entry) (now before : EventLines) → of_side side other (if same then line ∷ [] else []) ≡ line ∷ []
    → (if is_side other side && same then now else before) ≡ now
line_own A A true line now before is = refl
line_own A A false line now before is = absurd cc
line_own A B same line now before is = absurd cc
line_own B A same line now before is = absurd cc
line_own B B true line now before is = refl
line_own B B false line now before is = absurd cc

-- ---- a line in which the end says and hears nothing and sends nothing, and in which its host answers nothing

pub quiet_line : (words : Words) (side : Side) (number : ℕ) (front : List Entry) (before : EventLines) (line : Entry) → seen_in_line words side number front line ≡ []
    → answers_in_line words side number front line ≡ [] → heard_in_line side number front line ≡ [] → is_own_packet side number front line ≡ false
    → event_after words side number front before line ≡ before
quiet_line words side number front before (Opened other link handle role) none unanswered deaf own =
    line_apart side other (link == number) (Opened other link handle role) no_event_lines before none
quiet_line words side number front before (Enter other link event channel) none unanswered deaf own =
    line_apart side other (link == number) (Enter other link event channel)
    (event_entering (turn_now front) event (keyed_on words side number front)
    (keyed_on words side number (front ++ Enter other link event channel ∷ [])) before) before none
quiet_line words side number front before line none unanswered deaf own =
    let keyed = keyed_more words side number front line ∙ quiet_keyed words side number front (keyed_on words side number front) line none unanswered in
    (λ i. changed_if (lengths_differ (keyed_on words side number front) (keyed i)) (passed_none side number front before line deaf own i))
    ∙ any_still (keyed_on words side number front) before

-- ---- lines that an end says

pub said_both : (withheld : Withheld) (response : Response) (slot : ℕ) (lines more : List Entry) (k : Keyed) (e : EventLines)
    → event_said withheld response slot (lines ++ more) k e
    ≡ event_said withheld response slot more (moved_by withheld response slot lines k) (event_said withheld response slot lines k e)
said_both withheld response slot [] more k e = refl
said_both withheld response slot (line ∷ lines) more k e =
    let after = keyed_by_all (steps_said withheld response slot k line) k in
    said_both withheld response slot lines more after (event_saying slot line k after e)

module _ (words : Words) (side : Side) (number : ℕ) (front : List Entry) (before : EventLines) (k after : Keyed) (keyed : keyed_on words side number front ≡ Some k) where
  -- a line of its own
  said_line : (line : Entry) → is_opening line ≡ false → where_named side number (link_named line) line ≡ line ∷ [] → heard_in_line side number front line ≡ []
      → is_own_packet side number front line ≡ false → keyed_on words side number (front ++ line ∷ []) ≡ Some after
      → event_after words side number front before line ≡ event_saying (turn_now front) line k after before
  said_line (Opened other link handle role) opens is deaf own later = absurd cc
  said_line (Enter other link event channel) opens is deaf own later =
      line_own side other (link == number) (Enter other link event channel)
      (event_entering (turn_now front) event (keyed_on words side number front)
      (keyed_on words side number (front ++ Enter other link event channel ∷ [])) before) before is
      ∙ (λ i. event_entering (turn_now front) event (keyed i) (later i) before)
  said_line line opens is deaf own later =
      λ i. changed_if (lengths_differ (keyed i) (later i)) (passed_none side number front before line deaf own i)

-- a line in which the end hears and sends nothing, and by which its host asks and answers nothing
pub line_moves : (words : Words) (side : Side) (number : ℕ) (front : List Entry) (line : Entry) (k : Keyed) (before : EventLines) → heard_in_line side number front line ≡ []
    → accepted_in side front line ≡ [] → is_own_packet side number front line ≡ false → let named = where_named side number (link_named line) line in NoneOpens named → keyed_on words side number front ≡ Some k
    → event_after words side number front before line ≡ event_said (withholds side front) (words side front) (turn_now front) named k before
line_moves words side number front line k before deaf unaccepted own opens keyed = by (named_by side number (link_named line) line)
  where
    unasked : asked_in_line words side number front line ≡ []
    unasked = unasked_in words side number front line unaccepted

    unanswered : answers_in_line words side number front line ≡ []
    unanswered = unanswered_in words side number front line unaccepted

    later : keyed_on words side number (front ++ line ∷ [])
        ≡ Some (moved_by (withholds side front) (words side front) (turn_now front) (where_named side number (link_named line) line) k)
    later =
        keyed_more words side number front line ∙ ap (λ one. keyed_in_line words side number front one line) keyed
        ∙ line_keyed words side number front line k deaf unaccepted opens

    by : IsNamed line (where_named side number (link_named line) line)
        → event_after words side number front before line
        ≡ event_said (withholds side front) (words side front) (turn_now front) (where_named side number (link_named line) line) k before
    by (Own is) =
        said_line words side number front before k (moved_by (withholds side front) (words side front) (turn_now front) (line ∷ []) k) keyed line
        (subst NoneOpens is opens).0 is deaf own
        (later ∙ ap (λ lines. Some (moved_by (withholds side front) (words side front) (turn_now front) lines k)) is)
        ∙ ap (λ lines. event_said (withholds side front) (words side front) (turn_now front) lines k before) (sym is)
    by (Others none) =
        quiet_line words side number front before line (λ i. unasked i ++ (deaf i ++ map Says (none i))) unanswered deaf own
        ∙ ap (λ lines. event_said (withholds side front) (words side front) (turn_now front) lines k before) (sym none)

-- ---- a packet that the end hears, and one that it sends

hearing_leaves : (role : Role) (slot : ℕ) (before after : Exchanged) (last : Pdu) (waits : Bool) → AllLeave (steps_heard role slot before after last waits)
hearing_leaves role slot before after last waits =
    if_leaves (is_more_acked before after && is_control last) SeesAcknowledged _ refl (one (answers_with role waits after))
  where
    one : (answers : Bool) → AllLeave (if answers then Does (Sends slot) ∷ [] else [])
    one true = (refl, tt)
    one false = tt

module _ (words : Words) (side : Side) (number : ℕ) (front : List Entry) (sender : Side) (channel : ℕ) (octets : List ℕ) (fate : Mark) (verdict : Verdict) (k : Keyed)
    (keyed : keyed_on words side number front ≡ Some k) (before : EventLines) where
  abbrev air : Entry
  air = Air sender channel octets fate verdict

  -- the end hears it
  pub heard_line : (slot : ℕ) (heard : List ℕ) → heard_in_line side number front air ≡ Hears slot heard ∷ []
      → event_after words side number front before air ≡ event_hearing slot (has_more channel octets) before
  heard_line slot heard is =
      let steps = steps_heard (role_now k.phased) slot (exchange_of number front side) (exchange_of number (front ++ air ∷ []) side) (carried_of number front side) (has_next k) in
      let later = keyed_more words side number front air ∙ ap (λ one. keyed_in_line words side number front one air) keyed
      ∙ heard_keyed words side number front air k slot heard refl (ap (λ xs. xs ++ []) is) refl in
      (λ i. changed_if (lengths_differ (keyed i) (later i))
      (passed_heard side number front before sender channel octets fate verdict slot heard is i))
      ∙ still k (keyed_by_all steps k) (event_hearing slot (has_more channel octets) before)
      (steps_leave steps k (hearing_leaves (role_now k.phased) slot (exchange_of number front side) (exchange_of number (front ++ air ∷ []) side) (carried_of number front side) (has_next k)))

  -- and judges it forged
  pub forged_line : heard_in_line side number front air ≡ HearsForged ∷ [] → event_after words side number front before air ≡ before
  forged_line is =
      let later = keyed_more words side number front air ∙ ap (λ one. keyed_in_line words side number front one air) keyed
      ∙ forged_keyed words side number front air k refl (ap (λ xs. xs ++ []) is) refl in
      (λ i. changed_if (lengths_differ (keyed i) (later i))
      (passed_forged side number front before sender channel octets fate verdict is i))
      ∙ still k (keyed_forged k) before (steps_leave (Forges ∷ []) k (refl, tt))

-- the end sends it
pub own_line : (words : Words) (side : Side) (number : ℕ) (front : List Entry) (sender : Side) (channel : ℕ) (octets : List ℕ) (fate : Mark) (verdict : Verdict) (before : EventLines)
    → is_own_packet side number front (Air sender channel octets fate verdict) ≡ true
    → event_after words side number front before (Air sender channel octets fate verdict) ≡ event_sending (turn_now front) (has_more channel octets) before
own_line words side number front sender channel octets fate verdict before own =
    let air = Air sender channel octets fate verdict in
    let of = is_of_link number front sender channel octets in
    let deaf = own_deaf of (is_heard_on number front sender channel octets fate verdict) verdict sender side (turn_now front) octets own in
    let keyed = keyed_more words side number front air ∙ quiet_keyed words side number front (keyed_on words side number front) air (ap (λ xs. xs ++ []) deaf) refl in
    (λ i. changed_if (lengths_differ (keyed_on words side number front) (keyed i)) (air_own of verdict sender side (turn_now front) (has_more channel octets) before own i))
    ∙ any_still (keyed_on words side number front) (event_sending (turn_now front) (has_more channel octets) before)

-- ---- what its host asks and answers

-- no line that opens a link or enters an event asks
named_unasked : (line : Entry) (named : List Entry) (step : Step) → IsNamed line named → map Says named ≡ Asks step ∷ [] → ⊥
named_unasked line named step (Own is) asked = absurd (let h : Says line ∷ [] ≡ Asks step ∷ [] = ap (map Says) (sym is) ∙ asked in absurd cc)
named_unasked line named step (Others none) asked = absurd (let h : [] ≡ Asks step ∷ [] = ap (map Says) (sym none) ∙ asked in absurd cc)

module _ (words : Words) (side : Side) (number : ℕ) (front : List Entry) (before : EventLines) where
  abbrev IsMovedBy : Entry → Type 0
  IsMovedBy line =
      event_after words side number front before line
      ≡ changed_if (lengths_differ (keyed_on words side number front) (keyed_on words side number (front ++ line ∷ []))) before

  pub asked_line : (line : Entry) (step : Step) → is_other line ≡ true → seen_in_line words side number front line ≡ Asks step ∷ [] → IsMovedBy line
  asked_line (Air sender channel octets fate verdict) step other is = absurd cc
  asked_line (Opened one link handle role) step other is =
      absurd (named_unasked (Opened one link handle role) _ step (named_by side number (Some (one, link)) (Opened one link handle role)) is)
  asked_line (Enter one link event channel) step other is =
      absurd (named_unasked (Enter one link event channel) _ step (named_by side number (Some (one, link)) (Enter one link event channel)) is)
  asked_line line step other is = refl

  pub answered_line : (line : Entry) (answer : Step) → is_other line ≡ true → answers_in_line words side number front line ≡ answer ∷ [] → IsMovedBy line
  answered_line (Air sender channel octets fate verdict) answer other is = absurd cc
  answered_line (Opened one link handle role) answer other is = absurd cc
  answered_line (Enter one link event channel) answer other is = absurd cc
  answered_line line answer other is = refl

-- ---- the line that opens the link

pub opened_line : (words : Words) (side : Side) (number handle : ℕ) (role : Role) (front : List Entry) (before : EventLines)
    → event_after words side number front before (Opened side number handle role) ≡ no_event_lines
opened_line words side number handle role front before = by side (number == number) (same_number number)
  where
    by : (one : Side) (same : Bool) → same ≡ true → (if is_side one one && same then no_event_lines else before) ≡ no_event_lines
    by A true is = refl
    by B true is = refl
    by one false is = absurd cc
