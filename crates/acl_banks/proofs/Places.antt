-- The first place of a list at which a test passes: a loop that looks for it, and what is changed there.
use Rattle.std.proofs.Common.{◌≡◌, inl, inr, ℕ, zero, suc, ◌+◌, ◌<◌, ◌≤◌, Bool, true, false, List, [], ◌∷◌, length, get_or, set, Some, None, refl, sym, ap, ◌∙◌, arith, nat_lt}
use Rattle.std.proofs.lemmas.Bool.Decides.{nat_tests}
use Rattle.std.proofs.lemmas.Bool.{cases_lt}
use Rattle.std.proofs.lemmas.List.{get_or_read, get_or_default}
use Rattle.std.proofs.lemmas.List.Folds.{find_at}
use Rattle.std.proofs.lemmas.Option.{slice_get_past, none-some}
use Rattle.std.proofs.lemmas.List.Sums.{position_or_len_is}
use Rattle.std.proofs.lemmas.List.Quantifiers.{position-Some}
use Rattle.std.specs.List.{position, position_or_len, find, remove}
use Rattle.acl_banks.specs.Packets.{with_first, without_first}

module _ {A : Type 0} (test : A → Bool) where
  -- no element before this place passes
  pub record IsNoneBefore (xs : List A) (place : ℕ) : Type 0 where
    pub fails : (k : ℕ) (d : A) → k < place → test (get_or xs k d) ≡ false

  pub none_before_first : (xs : List A) → IsNoneBefore xs 0
  none_before_first xs = record { fails = λ k d below. absurd (omega arith) }

  pub none_before_next : (xs : List A) (place : ℕ) (x : A) → IsNoneBefore xs place → place < length xs → x ≡ get_or xs place x → test x ≡ false → IsNoneBefore xs (place + 1)
  none_before_next xs place x before within read failed =
      record {
        fails = λ k d below. elim (cases_lt k place) [
          | inl earlier ↦ before.fails k d earlier
          | inr later ↦
              let here : k ≡ place = omega arith in
              rw (here, ← get_or_read xs place x within read d) failed
        ];
      }

  pub found_first : (xs : List A) (place : ℕ) (x : A) → IsNoneBefore xs place → place < length xs → x ≡ get_or xs place x → test x ≡ true → Some place ≡ position test xs
  found_first xs place x before within read passed =
      let first : position_or_len test xs ≡ place =
      position_or_len_is test xs place x (omega arith) (λ k below. before.fails k x below) (λ _. ap test (sym read) ∙ passed) in
      rw first (grind arith)

  pub found_none : (xs : List A) (place : ℕ) → IsNoneBefore xs place → place ≡ length xs → None ≡ position test xs
  found_none [] place before at_end = refl
  found_none (x ∷ rest) place before at_end =
      let first : position_or_len test (x ∷ rest) ≡ place =
      position_or_len_is test (x ∷ rest) place x (omega arith) (λ k below. before.fails k x below) (λ inside. absurd (omega arith)) in
      rw first (grind arith)

  -- the first place at which the test passes
  pub record IsFirst (xs : List A) (place : ℕ) (d : A) : Type 0 where
    pub within : place < length xs
    pub passes : test (get_or xs place d) ≡ true
    pub fails : (k : ℕ) → k < place → test (get_or xs k d) ≡ false

  pub first_from_position : (xs : List A) (place : ℕ) (d : A) → position test xs ≡ Some place → IsFirst xs place d
  first_from_position xs place d at =
      let facts = position-Some test xs place d at in
      record { within = facts.0; passes = facts.1; fails = facts.2 }

  -- the element there, read with itself as the default
  pub read_first : (xs : List A) (place : ℕ) (d : A) → position test xs ≡ Some place → get_or xs place d ≡ get_or xs place (get_or xs place d)
  read_first xs place d at = get_or_default xs place d (get_or xs place d) (first_from_position xs place d at).within

  later : (y : A) (ys : List A) (place : ℕ) (d : A) → IsFirst (y ∷ ys) (suc place) d → IsFirst ys place d
  later y ys place d first =
      record {
        within = omega (arith, first.within);
        passes = first.passes;
        fails = λ k below. first.fails (suc k) (omega arith);
      }

  pub find-first : (xs : List A) (place : ℕ) (d : A) → IsFirst xs place d → find test xs ≡ Some (get_or xs place d)
  find-first [] place d first = absurd (omega (arith, first.within))
  find-first (y ∷ ys) zero d first = rw first.passes refl
  find-first (y ∷ ys) (suc place) d first =
      let failed : test y ≡ false = first.fails 0 (omega arith) in
      rw failed (find-first ys place d (later y ys place d first))

  pub with_first-set : (change : A → A) (xs : List A) (place : ℕ) (d : A) → IsFirst xs place d → with_first test change xs ≡ set xs place (change (get_or xs place d))
  with_first-set change [] place d first = absurd (omega (arith, first.within))
  with_first-set change (y ∷ ys) zero d first = rw first.passes refl
  with_first-set change (y ∷ ys) (suc place) d first =
      let failed : test y ≡ false = first.fails 0 (omega arith) in
      rw failed (ap (λ rest. y ∷ rest) (with_first-set change ys place d (later y ys place d first)))

  pub without_first-remove : (xs : List A) (place : ℕ) (d : A) → IsFirst xs place d → without_first test xs ≡ remove xs place
  without_first-remove [] place d first = absurd (omega (arith, first.within))
  without_first-remove (y ∷ ys) zero d first = rw first.passes refl
  without_first-remove (y ∷ ys) (suc place) d first =
      let failed : test y ≡ false = first.fails 0 (omega arith) in
      rw failed (ap (λ rest. y ∷ rest) (without_first-remove ys place d (later y ys place d first)))

  pub find_none : (xs : List A) → position test xs ≡ None → find test xs ≡ None
  find_none xs none = find_at test xs ∙ slice_get_past xs (position_or_len test xs) (past (nat_lt (position_or_len test xs) (length xs)) refl)
    where
      past : (b : Bool) → nat_lt (position_or_len test xs) (length xs) ≡ b → length xs ≤ position_or_len test xs
      past false e = grind (arith, nat_tests)
      past true e = absurd (none-some (position_or_len test xs) (sym none ∙ rw e refl))
