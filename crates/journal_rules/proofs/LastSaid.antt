-- The line that a side said last, where that is of a new PDU, and the end of the side from there on.
use Rattle.std.proofs.Common.{◌≡◌, ℕ, ◌==◌, ◌&&◌, Bool, true, false, Option, Some, None, List, [], ◌∷◌, ◌++◌, is_some, fold, refl, sym, ap, subst, ◌∙◌, append-nil, append_assoc}
use Rattle.std.specs.Prelude.{if◌then◌else◌}
use Rattle.std.specs.List.{AllByRecursion}
use Rattle.std.proofs.lemmas.Bool.{eq-eqb}
use Rattle.std.proofs.lemmas.List.Sums.{fold-append}
use Rattle.std.proofs.lemmas.Option.{same_Some}
use Rattle.ble_base.specs.declared.roles.Side.{Side}
use Rattle.ble_base.specs.declared.roles.Side.TheVariants.{A, B}
use Rattle.journal.specs.declared.entries.Entry.{Entry}
use Rattle.journal.specs.declared.entries.Entry.TheVariants.{Sent, Turn}
use Rattle.journal_events.specs.journal_sending.Announced.{announced_pdu, announced_pdu_after, announcement_in, is_line_of}
use Rattle.journal_events.specs.journal_sending.Resting.{AllAreAtRest}
use Rattle.journal_events.specs.journal_sending.journal_controls.LineSteps.{keyed_on}
use Rattle.journal_events.specs.journal_sending.journal_data.Lines.{PduLine}
use Rattle.journal_events.specs.journal_sending.journal_fixing.OnLines.{begins_turn, control_fixing, fixing_kept, is_fixed_from, kept_or}
use Rattle.journal_events.specs.journal_sending.journal_fixing.journal_controls.journal_ends.Asked.{Words}
use Rattle.journal_events.specs.journal_sending.journal_fixing.link_model.keyed_control.Keyed.{Keyed}
use Rattle.journal_events.specs.journal_sending.journal_packets.Belonging.{is_side}
use Rattle.journal_events.proofs.journal_sending.journal_fixing.KeptFolds.{kept_first, kept_in, kept_stays, or_kept, or_now}

-- ---- the line of the last new PDU

abbrev pub line_of_pdu : Side → PduLine → Entry
line_of_pdu side one = Sent side one.link one.number one.pdu.llid one.pdu.body

abbrev pub NoneOfSide : Side → List Entry → Type 0
NoneOfSide side lines = AllByRecursion (λ line. is_line_of side line ≡ false) lines

-- the last line of a side is that of this PDU
pub record IsSaidLast (side : Side) (front : List Entry) (one : PduLine) : Type 0 where
  pub before : List Entry
  pub after : List Entry
  pub is : front ≡ before ++ line_of_pdu side one ∷ after
  pub none : NoneOfSide side after

same_side : (one other : Side) → is_side one other ≡ true → one ≡ other
same_side A A is = refl
same_side B B is = refl
same_side A B is = absurd cc
same_side B A is = absurd cc

module _ (side : Side) (one : PduLine) where
  data Found (told : Option PduLine) (lines : List Entry) : Type 0 where
    Before : told ≡ Some one → NoneOfSide side lines → Found told lines
    Here : IsSaidLast side lines one → Found told lines

  is_this : (line : Entry) → is_line_of side line ≡ true → announcement_in line ≡ Some one → line ≡ line_of_pdu side one
  is_this (Sent other link number llid body) own is =
      let said : PduLine = record { link = link; number = number; pdu = record { llid = llid; body = body } } in
      let same = same_Some said one is in
      λ i. Sent (same_side other side own i) (same i).link (same i).number (same i).pdu.llid (same i).pdu.body
  is_this line own is = absurd cc

  found : (told : Option PduLine) (lines : List Entry) → fold (announced_pdu_after side) told lines ≡ Some one → Found told lines
  found told [] is = Before is tt
  found told (line ∷ lines) is = by (found (announced_pdu_after side told line) lines is)
    where
      here : (own : Bool) → is_line_of side line ≡ own → (if own then announcement_in line else told) ≡ Some one
          → NoneOfSide side lines → Found told (line ∷ lines)
      here true own is none = Here (record { before = []; after = lines; is = ap (λ l. l ∷ lines) (is_this line own is); none = none })
      here false own is none = Before is (own, none)

      by : Found (announced_pdu_after side told line) lines → Found told (line ∷ lines)
      by (Before is none) = here (is_line_of side line) refl is none
      by (Here said) = Here (record { before = line ∷ said.before; after = said.after; is = ap (λ xs. line ∷ xs) said.is; none = said.none })

  nothing_told : (lines : List Entry) → Found None lines → IsSaidLast side lines one
  nothing_told lines (Before is none) = absurd cc
  nothing_told lines (Here said) = said

  pub said_last : (front : List Entry) → announced_pdu side front ≡ Some one → IsSaidLast side front one
  unfolding announced_pdu
  said_last front is = nothing_told front (found None front is)

-- ---- no turn begins after it

told_more : (side : Side) (front : List Entry) (line : Entry) → announced_pdu side (front ++ line ∷ []) ≡ announced_pdu_after side (announced_pdu side front) line
unfolding announced_pdu
told_more side front line = fold-append (announced_pdu_after side) None front (line ∷ [])

abbrev pub NoneBegins : List Entry → Type 0
NoneBegins lines = AllByRecursion (λ line. begins_turn line ≡ false) lines

module _ (words : Words) (journal : List Entry) (rests : AllAreAtRest words journal) (side : Side) (one : PduLine) where
  tells_still : (front : List Entry) (line : Entry) → announced_pdu side front ≡ Some one → is_line_of side line ≡ false
      → announced_pdu side (front ++ line ∷ []) ≡ Some one
  tells_still front line is none = told_more side front line ∙ ap (λ own. if own then announcement_in line else announced_pdu side front) none ∙ is

  pub none_begins : (front after rest : List Entry) → journal ≡ front ++ (after ++ rest) → announced_pdu side front ≡ Some one → NoneOfSide side after → NoneBegins after
  none_begins front [] rest at is none = tt
  none_begins front (Turn slot a_on b_on ∷ after) rest at is none =
      absurd (let rested = (rests front (after ++ rest) slot a_on b_on at side).0 in let same : Some one ≡ None = sym is ∙ rested in cc)
  none_begins front (line ∷ after) rest at is none = (
    refl,
    none_begins (front ++ line ∷ []) after rest (at ∙ sym (append_assoc front (line ∷ []) (after ++ rest))) (tells_still front line is none.0) none.1,
  )

  pub told_then : (front : List Entry) → announced_pdu side (front ++ line_of_pdu side one ∷ []) ≡ Some one
  told_then front = told_more side front (line_of_pdu side one) ∙ own side
    where
      own : (same : Side) → announced_pdu_after same (announced_pdu side front) (line_of_pdu same one) ≡ Some one
      own A = refl
      own B = refl

-- ---- the end as it fixed its next PDU is the same at this line and after it

module _ (words : Words) (side : Side) (number : ℕ) where
  abbrev passes : List Entry → Entry → Bool
  passes front line = is_fixed_from side number line

  abbrev now : List Entry → Entry → Option Keyed
  now front line = keyed_on words side number front

  abbrev kept : List Entry → Option (Option Keyed)
  kept front = kept_in passes now front

  abbrev value : List Entry → Option Keyed
  value front = kept_or (kept front) (keyed_on words side number front)

  own_passes : (count llid : ℕ) (body : List ℕ) → is_fixed_from side number (Sent side number count llid body) ≡ true
  own_passes count llid body = ap (λ b. is_side side side && b) (eq-eqb number number refl) ∙ own side
    where
      own : (same : Side) → (is_side same same && true) ≡ true
      own A = refl
      own B = refl

  record IsKept (front : List Entry) (held : Option Keyed) : Type 0 where
    has : is_some (kept front) ≡ true
    is : value front ≡ held

  kept_on : (front lines : List Entry) (held : Option Keyed) → IsKept front held → NoneBegins lines → IsKept (front ++ lines) held
  kept_on front [] held is none = subst (λ xs. IsKept xs held) (sym (append-nil front)) is
  kept_on front (line ∷ lines) held is none =
      let stays = kept_stays passes now front line none.0 is.has in
      subst (λ xs. IsKept xs held) (append_assoc front (line ∷ []) lines)
      (kept_on (front ++ line ∷ []) lines held (record {
        has = ap is_some stays ∙ is.has;
        is = ap (λ k. kept_or k (keyed_on words side number (front ++ line ∷ []))) stays
            ∙ or_kept (kept front) (keyed_on words side number (front ++ line ∷ [])) (keyed_on words side number front) is.has ∙ is.is;
      }) none.1)

  sent_keeps : (front : List Entry) (count llid : ℕ) (body : List ℕ) → IsKept (front ++ Sent side number count llid body ∷ []) (value front)
  sent_keeps front count llid body = by (is_some (kept front)) refl
    where
      line : Entry
      line = Sent side number count llid body

      by : (has : Bool) → is_some (kept front) ≡ has → IsKept (front ++ Sent side number count llid body ∷ []) (value front)
      by true has =
          let stays = kept_stays passes now front line refl has in record {
            has = ap is_some stays ∙ has;
            is = ap (λ k. kept_or k (keyed_on words side number (front ++ line ∷ []))) stays
                ∙ or_kept (kept front) (keyed_on words side number (front ++ line ∷ [])) (keyed_on words side number front) has;
          }
      by false has =
          let first = kept_first passes now front line refl has (own_passes count llid body) in record {
            has = ap is_some first;
            is = ap (λ k. kept_or k (keyed_on words side number (front ++ line ∷ []))) first
                ∙ sym (or_now (kept front) (keyed_on words side number front) has);
          }

  pub fixing_since : (front after : List Entry) (count llid : ℕ) (body : List ℕ) → NoneBegins after
      → control_fixing words side number (front ++ Sent side number count llid body ∷ after) ≡ control_fixing words side number front
  unfolding fixing_kept
  fixing_since front after count llid body none =
      ap value (sym (append_assoc front (Sent side number count llid body ∷ []) after))
      ∙ (kept_on (front ++ Sent side number count llid body ∷ []) after (value front) (sent_keeps front count llid body) none).is

  -- a line in which no turn begins leaves what is fixed
  pub fixed_stays : (front : List Entry) (line : Entry) → begins_turn line ≡ false → is_some (fixing_kept words side number front) ≡ true
      → control_fixing words side number (front ++ line ∷ []) ≡ control_fixing words side number front
  unfolding fixing_kept
  fixed_stays front line goes has = (kept_on front (line ∷ []) (value front) (record { has = has; is = refl }) (goes, tt)).is
