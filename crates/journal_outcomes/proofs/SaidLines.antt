-- Lines of a side on a link: the first that says a PDU that is sent, and lines of which one is of some kind.
use Rattle.std.proofs.Common.{◌≡◌, ℕ, ◌==◌, ◌||◌, Bool, true, false, Option, Some, None, List, [], ◌∷◌, ◌++◌, fold, refl, ap, ◌∙◌, if◌then◌else◌}
use Rattle.std.proofs.lemmas.Bool.{eqb-true, or_right}
use Rattle.std.proofs.lemmas.List.Sums.{fold-append}
use Rattle.ble_base.specs.declared.roles.Side.{Side}
use Rattle.ble_base.specs.declared.roles.Side.TheVariants.{A, B}
use Rattle.journal.specs.declared.entries.Entry.{Entry}
use Rattle.journal.specs.declared.entries.Entry.TheVariants.{Sent}
use Rattle.journal_crossing.specs.journal_links.LinkLines.{link_named, lines_of, where_named}
use Rattle.journal_crossing.specs.run_model.Readers.{of_side}
use Rattle.journal_crossing.proofs.journal_links.LinkLines.{lines_append}
use Rattle.journal_crossing.specs.journal_collisions.Collisions.{SendsNothing, any_line, first_of, is_sent}

-- ---- one of these lines is such

module _ (test : Entry → Bool) where
  pub any_after : (lines : List Entry) → fold (λ found line. found || test line) true lines ≡ true
  any_after [] = refl
  any_after (line ∷ lines) = any_after lines

  pub any_at : (front rest : List Entry) (line : Entry) → test line ≡ true → any_line test (front ++ line ∷ rest) ≡ true
  any_at front rest line is =
      fold-append (λ found one. found || test one) false front (line ∷ rest)
      ∙ ap (λ (b : Bool). fold (λ found one. found || test one) b rest) (or_right (any_line test front) (test line) is)
      ∙ any_after rest

  any_first : (front rest : List Entry) → any_line test front ≡ true → any_line test (front ++ rest) ≡ true
  any_first front rest is =
      fold-append (λ found one. found || test one) false front rest
      ∙ ap (λ (b : Bool). fold (λ found one. found || test one) b rest) is ∙ any_after rest

  any_later : (front rest : List Entry) → any_line test rest ≡ true → any_line test (front ++ rest) ≡ true
  any_later front rest is = fold-append (λ found one. found || test one) false front rest ∙ by (any_line test front)
    where
      by : (b : Bool) → fold (λ found one. found || test one) b rest ≡ true
      by true = any_after rest
      by false = is

  -- the same of the lines of a side
  pub said_first : (side : Side) (number : ℕ) (front rest : List Entry) → any_line test (lines_of side number front) ≡ true
      → any_line test (lines_of side number (front ++ rest)) ≡ true
  said_first side number front rest is =
      ap (any_line test) (lines_append side number front rest) ∙ any_first (lines_of side number front) (lines_of side number rest) is

  pub said_later : (side : Side) (number : ℕ) (front rest : List Entry) → any_line test (lines_of side number rest) ≡ true
      → any_line test (lines_of side number (front ++ rest)) ≡ true
  said_later side number front rest is =
      ap (any_line test) (lines_append side number front rest) ∙ any_later (lines_of side number front) (lines_of side number rest) is

  pub none_more : (front rest : List Entry) → any_line test front ≡ false → any_line test rest ≡ false → any_line test (front ++ rest) ≡ false
  none_more front rest first later =
      fold-append (λ found one. found || test one) false front rest
      ∙ ap (λ (b : Bool). fold (λ found one. found || test one) b rest) first ∙ later

-- ---- the first PDU that a side sends

pub data FirstSent (side : Side) (number : ℕ) (entries : List Entry) : Type 0 where
  NoneSent : SendsNothing side number entries → FirstSent side number entries
  OneSent : (count llid : ℕ) (body : List ℕ) (front rest : List Entry) → entries ≡ front ++ Sent side number count llid body ∷ rest
      → SendsNothing side number front → FirstSent side number entries

data IsOneSent (side : Side) (number : ℕ) (line : Entry) : Type 0 where
  IsSent : (count llid : ℕ) (body : List ℕ) → line ≡ Sent side number count llid body → IsOneSent side number line
  IsNone : any_line is_sent (lines_of side number (line ∷ [])) ≡ false → IsOneSent side number line

none_of : (side other : Side) (same : Bool) (line : Entry) → is_sent line ≡ false
    → any_line is_sent (of_side side other (if same then line ∷ [] else []) ++ []) ≡ false
none_of A A true line none = none
none_of B B true line none = none
none_of A A false line none = refl
none_of B B false line none = refl
none_of A B same line none = refl
none_of B A same line none = refl

none_named : (side : Side) (number : ℕ) (may : Option (Side × ℕ)) (line : Entry) → is_sent line ≡ false → any_line is_sent (where_named side number may line ++ []) ≡ false
none_named side number None line none = refl
none_named side number (Some named) line none = none_of side named.0 (named.1 == number) line none

one_sent : (side : Side) (number : ℕ) (line : Entry) → IsOneSent side number line
one_sent side number (Sent other link count llid body) = by side other (link == number) refl
  where
    by : (here there : Side) (same : Bool) → (link == number) ≡ same → IsOneSent here number (Sent there link count llid body)
    by A A true is = IsSent count llid body (λ i. Sent A (eqb-true link number is i) count llid body)
    by B B true is = IsSent count llid body (λ i. Sent B (eqb-true link number is i) count llid body)
    by A A false is = IsNone (λ i. any_line is_sent (of_side A A (if is i then Sent A link count llid body ∷ [] else []) ++ []))
    by B B false is = IsNone (λ i. any_line is_sent (of_side B B (if is i then Sent B link count llid body ∷ [] else []) ++ []))
    by A B same is = IsNone refl
    by B A same is = IsNone refl
one_sent side number line = IsNone (none_named side number (link_named line) line refl)

pub first_sent : (side : Side) (number : ℕ) (entries : List Entry) → FirstSent side number entries
first_sent side number [] = NoneSent refl
first_sent side number (line ∷ entries) = by (one_sent side number line) (first_sent side number entries)
  where
    with_line : (front : List Entry) → any_line is_sent (lines_of side number (line ∷ [])) ≡ false → SendsNothing side number front → SendsNothing side number (line ∷ front)
    with_line front none later =
        ap (any_line is_sent) (lines_append side number (line ∷ []) front)
        ∙ none_more is_sent (lines_of side number (line ∷ [])) (lines_of side number front) none later

    by : IsOneSent side number line → FirstSent side number entries → FirstSent side number (line ∷ entries)
    by (IsSent count llid body is) rest = OneSent count llid body [] entries (λ i. is i ∷ entries) refl
    by (IsNone none) (NoneSent later) = NoneSent (with_line entries none later)
    by (IsNone none) (OneSent count llid body front rest is later) =
        OneSent count llid body (line ∷ front) rest (λ i. line ∷ is i) (with_line front none later)

-- ---- the first line of some

pub data IsFirst (said : List Entry) (next first : Entry) : Type 0 where
  InFront : (rest : List Entry) → said ≡ first ∷ rest → IsFirst said next first
  IsNext : next ≡ first → IsFirst said next first

pub first_among : (said more : List Entry) (next first : Entry) → first_of (said ++ next ∷ more) ≡ Some first → IsFirst said next first
first_among [] more next first is = let same : next ≡ first = cc in IsNext same
first_among (line ∷ said) more next first is = let same : line ≡ first = cc in InFront said (λ i. same i ∷ said)
