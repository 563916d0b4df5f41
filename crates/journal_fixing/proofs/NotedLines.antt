-- An end as its next PDU is fixed, and as that goes, by a journal with the lines of notes more.
use Rattle.std.proofs.Common.{◌≡◌, ℕ, ◌-◌, ◌==◌, ◌&&◌, ◌||◌, Bool, true, false, Option, Some, None, List, [], ◌∷◌, ◌++◌, length, map, refl, sym, ap, subst, ◌∙◌, append-nil, append_assoc, if◌then◌else◌}
use Rattle.std.specs.List.{AllByRecursion}
use Rattle.std.proofs.lemmas.Grind.{flat_map-append}
use Rattle.ble_base.specs.declared.roles.Side.{Side}
use Rattle.ble_base.specs.declared.roles.Side.TheVariants.{A, B}
use Rattle.journal_controls.proofs.host_answers.LineAnswers.{statuses_in}
use Rattle.journal_controls.specs.host_masks.Masks.{masks_of}
use Rattle.journal.specs.declared.entries.Entry.{Entry}
use Rattle.journal.specs.declared.entries.Entry.TheVariants.{Air, Fed, Sent, Took, Turn}
use Rattle.journal_controls.specs.KeyedLines.{keyed_by_all}
use Rattle.journal_controls.specs.Withheld.{Withheld, withheld_by}
use Rattle.journal_controls.specs.LineSteps.{keyed_in_line, keyed_on, steps_said, turn_now, withholds}
use Rattle.journal_controls.specs.SaidLines.{NoneOpens, moved_by}
use Rattle.journal_controls.specs.journal_ends.Asked.{Words}
use Rattle.journal_controls.specs.journal_ends.Seen.{Says, heard_in_line}
use Rattle.journal_controls.specs.journal_links.LinkLines.{lines_of, link_named, where_named}
use Rattle.journal_controls.specs.journal_packets.Belonging.{is_side}
use Rattle.journal_controls.specs.link_model.keyed_control.Keyed.{Keyed}
use Rattle.journal_controls.specs.link_model.keyed_control.declared.material.Response.{Response}
use Rattle.journal_controls.specs.run_model.Order.{AreNotes, side_of_note}
use Rattle.journal_controls.specs.run_model.Readers.{PairOpening, fed_in, fed_to_side, of_side, pair_openings_in, turns_of}
use Rattle.journal_controls.proofs.LineFolds.{keyed_more, line_moves, moved_both}
use Rattle.journal_controls.proofs.journal_ends.SeenEvents.{unaccepted_by, unanswered_in, unasked_by}
use Rattle.journal_fixing.specs.OnLines.{NoneTakes, before_sending, begins_turn, control_fixing, control_going, has_heard, is_fixed, is_fixed_from, is_heard_at, is_sending, is_taking, hears_good}
use Rattle.journal_fixing.proofs.ControlKept.{fixed_is, fixing_now, fixing_quiet, fixing_stays, going_stays, heard_is}

-- ---- the line of a note

note_goes : (line : Entry) (side : Side) → side_of_note line ≡ Some side → begins_turn line ≡ false
note_goes (Turn slot a_on b_on) side is = absurd cc
note_goes line side is = refl

note_deaf : (line : Entry) (own side : Side) (number : ℕ) (front : List Entry) → side_of_note line ≡ Some own → heard_in_line side number front line ≡ []
note_deaf (Air sender channel octets fate verdict) own side number front is = absurd cc
note_deaf line own side number front is = refl

none_begins : (line : Entry) → begins_turn line ≡ false → pair_openings_in line ≡ []
none_begins (Turn slot a_on b_on) is = absurd cc
none_begins line is = refl

turn_stays : (front : List Entry) (line : Entry) → begins_turn line ≡ false → turn_now (front ++ line ∷ []) ≡ turn_now front
turn_stays front line goes =
    ap (λ (turns : List PairOpening). length turns - 1)
    (flat_map-append pair_openings_in front (line ∷ []) ∙ (λ i. turns_of front ++ (none_begins line goes i ++ [])) ∙ append-nil (turns_of front))

none_fed : (line : Entry) (own side : Side) → side_of_note line ≡ Some own → fed_in side line ≡ []
none_fed (Fed other octets) own side is = absurd cc
none_fed line own side is = refl

withholds_stay : (own side : Side) (front : List Entry) (line : Entry) → side_of_note line ≡ Some own → withholds side (front ++ line ∷ []) ≡ withholds side front
withholds_stay own side front line is =
    ap (λ octets. withheld_by (masks_of octets))
    (flat_map-append (fed_in side) front (line ∷ []) ∙ (λ i. fed_to_side side front ++ (none_fed line own side is i ++ [])) ∙ append-nil (fed_to_side side front))

none_both : (lines more : List Entry) → lines ++ more ≡ [] → (lines ≡ []) × (more ≡ [])
none_both [] more none = (refl, none)
none_both (line ∷ lines) more none = absurd cc

-- ---- lines of notes

-- they tell a side of no answer to a command of its host
abbrev pub AreSilent : Side → List Entry → Type 0
AreSilent side lines = AllByRecursion (λ line. statuses_in side line ≡ []) lines

module _ (words : Words) (own side : Side) (number : ℕ) where
  pub notes_fixing : (journal lines : List Entry) → AreNotes own lines → is_fixed words side number journal ≡ true
      → control_fixing words side number (journal ++ lines) ≡ control_fixing words side number journal
  notes_fixing journal [] are is = ap (control_fixing words side number) (append-nil journal)
  notes_fixing journal (line ∷ lines) are is =
      let next = journal ++ line ∷ [] in
      let goes = note_goes line own are.0 in
      let fixed = ap (λ b. b || is_fixed_from side number line) is in
      ap (control_fixing words side number) (sym (append_assoc journal (line ∷ []) lines))
      ∙ notes_fixing next lines are.1 (fixed_is words side number journal line goes ∙ fixed)
      ∙ fixing_stays words side number journal line goes fixed

  pub notes_fixed : (journal lines : List Entry) → AreNotes own lines → is_fixed words side number journal ≡ true → is_fixed words side number (journal ++ lines) ≡ true
  notes_fixed journal [] are is = ap (is_fixed words side number) (append-nil journal) ∙ is
  notes_fixed journal (line ∷ lines) are is =
      let goes = note_goes line own are.0 in
      ap (is_fixed words side number) (sym (append_assoc journal (line ∷ []) lines))
      ∙ notes_fixed (journal ++ line ∷ []) lines are.1 (fixed_is words side number journal line goes ∙ ap (λ b. b || is_fixed_from side number line) is)

  pub notes_heard : (journal lines : List Entry) → AreNotes own lines → has_heard words side number journal ≡ true → has_heard words side number (journal ++ lines) ≡ true
  notes_heard journal [] are is = ap (has_heard words side number) (append-nil journal) ∙ is
  notes_heard journal (line ∷ lines) are is =
      let goes = note_goes line own are.0 in
      ap (has_heard words side number) (sym (append_assoc journal (line ∷ []) lines))
      ∙ notes_heard (journal ++ line ∷ []) lines are.1 (heard_is words side number journal line goes ∙ ap (λ b. b || is_heard_at side number journal line) is)

  pub notes_going : (journal lines : List Entry) → AreNotes own lines → has_heard words side number journal ≡ true
      → control_going words side number (journal ++ lines) ≡ control_going words side number journal
  notes_going journal [] are is = ap (control_going words side number) (append-nil journal)
  notes_going journal (line ∷ lines) are is =
      let next = journal ++ line ∷ [] in
      let goes = note_goes line own are.0 in
      ap (control_going words side number) (sym (append_assoc journal (line ∷ []) lines))
      ∙ notes_going next lines are.1 (heard_is words side number journal line goes ∙ ap (λ b. b || is_heard_at side number journal line) is)
      ∙ going_stays words side number journal line goes is

  -- notes of another end
  pub notes_still : (journal lines : List Entry) → AreNotes own lines → AreSilent side lines → lines_of side number lines ≡ []
      → control_fixing words side number (journal ++ lines) ≡ control_fixing words side number journal
  notes_still journal [] are silent none = ap (control_fixing words side number) (append-nil journal)
  notes_still journal (line ∷ lines) are silent none =
      let goes = note_goes line own are.0 in
      let parts = none_both (where_named side number (link_named line) line) (lines_of side number lines) none in
      ap (control_fixing words side number) (sym (append_assoc journal (line ∷ []) lines))
      ∙ notes_still (journal ++ line ∷ []) lines are.1 silent.1 parts.1
      ∙ fixing_quiet words side number journal line goes (λ i. unasked_by words side number journal line silent.0 i ++ (note_deaf line own side number journal are.0 i ++ map Says (parts.0 i)))
      (unanswered_in words side number journal line (unaccepted_by side journal line silent.0))

  -- notes are no packets
  pub notes_unheard : (journal lines : List Entry) → AreNotes own lines → has_heard words side number journal ≡ false → has_heard words side number (journal ++ lines) ≡ false
  notes_unheard journal [] are none = ap (has_heard words side number) (append-nil journal) ∙ none
  notes_unheard journal (line ∷ lines) are none =
      let next = journal ++ line ∷ [] in
      let goes = note_goes line own are.0 in
      ap (has_heard words side number) (sym (append_assoc journal (line ∷ []) lines))
      ∙ notes_unheard next lines are.1
      (heard_is words side number journal line goes ∙ (λ i. none i || hears_good (note_deaf line own side number journal are.0 i)))

  -- ---- up to the line of a new PDU

  first_none : (lines more : List Entry) → NoneOpens (lines ++ more) → NoneOpens lines
  first_none [] more none = tt
  first_none (line ∷ lines) more none = (none.0, first_none lines more none.1)

  last_none : (lines more : List Entry) → NoneOpens (lines ++ more) → NoneOpens more
  last_none [] more none = none
  last_none (line ∷ lines) more none = last_none lines more none.1

  module _ (rest : List Entry) where
    abbrev said : Side → Side → Bool → Entry → List Entry
    said one other same line = of_side one other (if same then line ∷ [] else [])

    -- the line of a new PDU of the end
    sent_if : (one other : Side) (same : Bool) (line : Entry) → (is_side other one && same) ≡ true → is_sending line ≡ true
        → before_sending (said one other same line ++ rest) ≡ []
    sent_if A A true line is sends = ap (λ b. if b then [] else line ∷ before_sending rest) sends
    sent_if A A false line is sends = absurd cc
    sent_if A B same line is sends = absurd cc
    sent_if B A same line is sends = absurd cc
    sent_if B B true line is sends = ap (λ b. if b then [] else line ∷ before_sending rest) sends
    sent_if B B false line is sends = absurd cc

    sent_here : (line : Entry) → side_of_note line ≡ Some own → is_fixed_from side number line ≡ true
        → before_sending (where_named side number (link_named line) line ++ rest) ≡ []
    sent_here (Air sender channel octets fate verdict) note is = absurd cc
    sent_here (Sent other link count llid body) note is = sent_if side other (link == number) (Sent other link count llid body) is refl
    sent_here line note is = absurd cc

    -- another line
    unsent_if : (one other : Side) (same : Bool) (line : Entry) → is_sending line ≡ false
        → before_sending (said one other same line ++ rest) ≡ said one other same line ++ before_sending rest
    unsent_if A A true line is = ap (λ b. if b then [] else line ∷ before_sending rest) is
    unsent_if A A false line is = refl
    unsent_if A B same line is = refl
    unsent_if B A same line is = refl
    unsent_if B B true line is = ap (λ b. if b then [] else line ∷ before_sending rest) is
    unsent_if B B false line is = refl

    unsent_named : (names : Option (Side × ℕ)) (line : Entry) → is_sending line ≡ false
        → before_sending (where_named side number names line ++ rest) ≡ where_named side number names line ++ before_sending rest
    unsent_named None line is = refl
    unsent_named (Some named) line is = unsent_if side named.0 (named.1 == number) line is

    -- the line of a new PDU of another end
    apart_if : (one other : Side) (same : Bool) (line : Entry) → (is_side other one && same) ≡ false → said one other same line ≡ []
    apart_if A A true line is = absurd cc
    apart_if A A false line is = refl
    apart_if A B same line is = refl
    apart_if B A same line is = refl
    apart_if B B true line is = absurd cc
    apart_if B B false line is = refl

    unsent_here : (line : Entry) → is_fixed_from side number line ≡ false
        → before_sending (where_named side number (link_named line) line ++ rest) ≡ where_named side number (link_named line) line ++ before_sending rest
    unsent_here (Sent other link count llid body) is =
        let none = apart_if side other (link == number) (Sent other link count llid body) is in
        ap (λ named. before_sending (named ++ rest)) none ∙ sym (ap (λ named. named ++ before_sending rest) none)
    unsent_here line is = unsent_named (link_named line) line refl

  -- the words that are drawn matter to the line of a PDU that is taken, and there is none
  undrawn : (withheld : Withheld) (one other : Response) (slot : ℕ) (line : Entry) (k : Keyed) → is_taking line ≡ false
      → keyed_by_all (steps_said withheld one slot k line) k ≡ keyed_by_all (steps_said withheld other slot k line) k
  undrawn withheld one other slot (Took by_side link count llid body) k is = absurd cc
  undrawn withheld one other slot line k is = refl

  moved_undrawn : (withheld : Withheld) (one other : Response) (slot : ℕ) (lines : List Entry) (k : Keyed) → NoneTakes lines
      → moved_by withheld one slot lines k ≡ moved_by withheld other slot lines k
  moved_undrawn withheld one other slot [] k none = refl
  moved_undrawn withheld one other slot (line ∷ lines) k none =
      ap (moved_by withheld one slot lines) (undrawn withheld one other slot line k none.0)
      ∙ moved_undrawn withheld one other slot lines (keyed_by_all (steps_said withheld other slot k line) k) none.1

  last_untaken : (lines more : List Entry) → NoneTakes (lines ++ more) → NoneTakes more
  last_untaken [] more none = none
  last_untaken (line ∷ lines) more none = last_untaken lines more none.1

  pub notes_fix : (journal lines : List Entry) (k : Keyed) → AreNotes own lines → AreSilent side lines → NoneOpens (lines_of side number lines)
      → NoneTakes (before_sending (lines_of side number lines)) → is_fixed words side number journal ≡ false → keyed_on words side number journal ≡ Some k
      → control_fixing words side number (journal ++ lines) ≡ Some (moved_by (withholds side journal) (words side journal) (turn_now journal) (before_sending (lines_of side number lines)) k)
  notes_fix journal [] k are silent opens untaken none was = ap (control_fixing words side number) (append-nil journal) ∙ fixing_now words side number journal none ∙ was
  notes_fix journal (line ∷ lines) k are silent opens untaken none was =
      by (is_fixed_from side number line) refl (λ moved takes none_yet now.
      notes_fix (journal ++ line ∷ []) lines moved are.1 silent.1 (last_none (where_named side number (link_named line) line) (lines_of side number lines) opens) takes none_yet now)
    where
      by : (from : Bool) → is_fixed_from side number line ≡ from
          → ((moved : Keyed) → NoneTakes (before_sending (lines_of side number lines)) → is_fixed words side number (journal ++ line ∷ []) ≡ false → keyed_on words side number (journal ++ line ∷ []) ≡ Some moved
          → control_fixing words side number ((journal ++ line ∷ []) ++ lines) ≡ Some (moved_by (withholds side (journal ++ line ∷ [])) (words side (journal ++ line ∷ [])) (turn_now (journal ++ line ∷ [])) (before_sending (lines_of side number lines)) moved))
          → control_fixing words side number (journal ++ line ∷ lines)
          ≡ Some (moved_by (withholds side journal) (words side journal) (turn_now journal) (before_sending (where_named side number (link_named line) line ++ lines_of side number lines)) k)
      by true from later =
          let next = journal ++ line ∷ [] in
          let rest = lines_of side number lines in
          let goes = note_goes line own are.0 in
          let fixed : (is_fixed words side number journal || is_fixed_from side number line) ≡ true = λ i. none i || from i in
          ap (control_fixing words side number) (sym (append_assoc journal (line ∷ []) lines))
          ∙ notes_fixing next lines are.1 (fixed_is words side number journal line goes ∙ fixed)
          ∙ fixing_stays words side number journal line goes fixed ∙ fixing_now words side number journal none ∙ was
          ∙ ap (λ xs. Some (moved_by (withholds side journal) (words side journal) (turn_now journal) xs k)) (sym (sent_here rest line are.0 from))
      by false from later =
          let next = journal ++ line ∷ [] in
          let named = where_named side number (link_named line) line in
          let rest = lines_of side number lines in
          let slot = turn_now journal in
          let held = withholds side journal in
          let response = words side journal in
          let goes = note_goes line own are.0 in
          let takes = last_untaken named (before_sending rest) (subst NoneTakes (unsent_here rest line from) untaken) in
          let unfixed : (is_fixed words side number journal || is_fixed_from side number line) ≡ false = λ i. none i || from i in
          let moves : keyed_on words side number next ≡ Some (moved_by held response slot named k) =
          keyed_more words side number journal line ∙ ap (λ before. keyed_in_line words side number journal before line) was
          ∙ line_moves words side number journal line k (note_deaf line own side number journal are.0) (unaccepted_by side journal line silent.0) (first_none named rest opens) in
          ap (control_fixing words side number) (sym (append_assoc journal (line ∷ []) lines))
          ∙ later (moved_by held response slot named k) takes (fixed_is words side number journal line goes ∙ unfixed) moves
          ∙ ap Some (moved_undrawn (withholds side next) (words side next) response (turn_now next) (before_sending rest) (moved_by held response slot named k) takes)
          ∙ (λ i. Some (moved_by (withholds_stay own side journal line are.0 i) response (turn_stays journal line goes i) (before_sending rest) (moved_by held response slot named k)))
          ∙ ap Some (sym (moved_both held response slot named (before_sending rest) k))
          ∙ ap (λ xs. Some (moved_by held response slot xs k)) (sym (unsent_here rest line from))
