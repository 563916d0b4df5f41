-- What waits for a host is sent to it in order, and what is not sent waits further.
use Rattle.std.proofs.Common.{◌≡◌, ℕ, zero, suc, ◌+◌, ◌≤◌, Bool, true, false, List, [], ◌∷◌, ◌++◌, length, take, drop, cond, inl, inr, refl, ap, sym, subst, ◌∙◌, arith}
use Rattle.std.specs.Prelude.{◌⊎◌, filter, map}
use Rattle.std.specs.List.{AllByRecursion}
use Rattle.acl_banks.specs.declared.pieces.Piece.{Piece}
use Rattle.host_view.specs.View.{View}
use Rattle.host_view.specs.Flow.{handed_of, left_of, outstanding, window}
use Rattle.controller_model.specs.Facts.{Facts}
use Rattle.controller_model.specs.Data.{note_received, notes_pieces, pieces_handed}
use Rattle.controller_model.proofs.Following.{AreOfOpenLinks}

module _ {A : Type 0} where
  taken_first : (n : ℕ) (waiting : List A) → take n waiting ++ drop n waiting ≡ waiting
  taken_first zero waiting = refl
  taken_first (suc n) [] = refl
  taken_first (suc n) (one ∷ waiting) = ap (λ rest. one ∷ rest) (taken_first n waiting)

  fewer_left : (n : ℕ) (waiting : List A) → length (drop n waiting) ≤ length waiting
  fewer_left zero waiting = omega arith
  fewer_left (suc n) [] = omega arith
  fewer_left (suc n) (one ∷ waiting) = let fewer = fewer_left n waiting in omega (arith, fewer)

  module _ (P : A → Type 0) where
    taken_are : (n : ℕ) (waiting : List A) → AllByRecursion P waiting → AllByRecursion P (take n waiting)
    taken_are zero waiting are = tt
    taken_are (suc n) [] are = tt
    taken_are (suc n) (one ∷ waiting) are = (are.0, taken_are n waiting are.1)

    dropped_are : (n : ℕ) (waiting : List A) → AllByRecursion P waiting → AllByRecursion P (drop n waiting)
    dropped_are zero waiting are = are
    dropped_are (suc n) [] are = tt
    dropped_are (suc n) (one ∷ waiting) are = dropped_are n waiting are.1

  -- what is sent and then what is left is what waited
  pub handed_first : (view : View) (waiting : List A) → handed_of view waiting ++ left_of view waiting ≡ waiting
  handed_first view waiting = by view.flow.on
    where
      none_more : (xs : List A) → xs ++ [] ≡ xs
      none_more [] = refl
      none_more (one ∷ xs) = ap (λ rest. one ∷ rest) (none_more xs)

      by : (on : Bool) → cond on (take (window view) waiting) waiting ++ cond on (drop (window view) waiting) [] ≡ waiting
      by true = taken_first (window view) waiting
      by false = none_more waiting

  pub left_less : (view : View) (waiting : List A) → length (left_of view waiting) ≤ length waiting
  left_less view waiting = by view.flow.on
    where
      by : (on : Bool) → length (cond on (drop (window view) waiting) []) ≤ length waiting
      by true = fewer_left (window view) waiting
      by false = omega arith

  pub handed_are : (P : A → Type 0) (view : View) (waiting : List A) → AllByRecursion P waiting → AllByRecursion P (handed_of view waiting)
  handed_are P view waiting are = by view.flow.on
    where
      by : (on : Bool) → AllByRecursion P (cond on (take (window view) waiting) waiting)
      by true = taken_are P (window view) waiting are
      by false = are

  pub left_are : (P : A → Type 0) (view : View) (waiting : List A) → AllByRecursion P waiting → AllByRecursion P (left_of view waiting)
  left_are P view waiting are = by view.flow.on
    where
      by : (on : Bool) → AllByRecursion P (cond on (drop (window view) waiting) [])
      by true = dropped_are P (window view) waiting are
      by false = tt

  -- with flow control off all is sent
  pub handed_where_off : (view : View) (waiting : List A) → view.flow.on ≡ false → handed_of view waiting ≡ waiting
  handed_where_off view waiting off = ap (λ (on : Bool). cond on (take (window view) waiting) waiting) off

  pub left_where_off : (view : View) (waiting : List A) → view.flow.on ≡ false → left_of view waiting ≡ []
  left_where_off view waiting off = ap (λ (on : Bool). cond on (drop (window view) waiting) []) off

  -- where nothing waits
  none_taken : (n : ℕ) (waiting : List A) → waiting ≡ [] → take n waiting ≡ []
  none_taken zero waiting none = refl
  none_taken (suc n) [] none = refl
  none_taken (suc n) (one ∷ waiting) none = absurd cc

  none_dropped : (n : ℕ) (waiting : List A) → waiting ≡ [] → drop n waiting ≡ []
  none_dropped zero waiting none = none
  none_dropped (suc n) [] none = refl
  none_dropped (suc n) (one ∷ waiting) none = absurd cc

  pub handed_none : (view : View) (waiting : List A) → waiting ≡ [] → handed_of view waiting ≡ []
  handed_none view waiting none = by view.flow.on
    where
      by : (on : Bool) → cond on (take (window view) waiting) waiting ≡ []
      by true = none_taken (window view) waiting none
      by false = none

  pub left_none : (view : View) (waiting : List A) → waiting ≡ [] → left_of view waiting ≡ []
  left_none view waiting none = by view.flow.on
    where
      by : (on : Bool) → cond on (drop (window view) waiting) [] ≡ []
      by true = none_dropped (window view) waiting none
      by false = refl

-- ---- how many are sent

taken_or_all : {A : Type 0} (n : ℕ) (waiting : List A) → (drop n waiting ≡ []) ⊎ (length (take n waiting) ≡ n)
taken_or_all zero waiting = inr refl
taken_or_all (suc n) [] = inl refl
taken_or_all (suc n) (one ∷ waiting) = elim (taken_or_all n waiting) [
  | inl none ↦ inl none
  | inr all ↦ inr (ap suc all)
]

taken_at_most : {A : Type 0} (n : ℕ) (waiting : List A) → length (take n waiting) ≤ n
taken_at_most zero waiting = omega arith
taken_at_most (suc n) [] = omega arith
taken_at_most (suc n) (one ∷ waiting) = let most = taken_at_most n waiting in omega (arith, most)

module _ {A : Type 0} (view : View) (waiting : List A) where
  pub all_or_full : outstanding view.links ≤ view.flow.acl_count
      → (left_of view waiting ≡ []) ⊎ ((view.flow.on ≡ true) × (outstanding view.links + length (handed_of view waiting) ≡ view.flow.acl_count))
  all_or_full most = by view.flow.on (taken_or_all (window view) waiting)
    where
      by : (on : Bool) → (drop (window view) waiting ≡ []) ⊎ (length (take (window view) waiting) ≡ window view)
          → (cond on (drop (window view) waiting) [] ≡ [])
          ⊎ ((on ≡ true) × (outstanding view.links + length (cond on (take (window view) waiting) waiting) ≡ view.flow.acl_count))
      by true taken = elim taken [
        | inl none ↦ inl none
        | inr all ↦ inr (refl, omega (arith, all, most))
      ]
      by false taken = inl refl

  pub no_more : view.flow.on ≡ true → outstanding view.links ≤ view.flow.acl_count
      → outstanding view.links + length (handed_of view waiting) ≤ view.flow.acl_count
  no_more on most =
      let few = taken_at_most (window view) waiting in
      subst (λ (pieces : List A). outstanding view.links + length pieces ≤ view.flow.acl_count)
      (sym (ap (λ (on : Bool). cond on (take (window view) waiting) waiting) on)) (omega (arith, few, most))

-- none that are kept of what is sent where none are of what waited
none_first : {A : Type 0} (keeps : A → Bool) (first rest : List A) → filter keeps (first ++ rest) ≡ [] → filter keeps first ≡ []
none_first keeps [] rest none = refl
none_first keeps (one ∷ first) rest none = by (keeps one) none (none_first keeps first rest)
  where
    by : (kept : Bool) → cond kept (one ∷ filter keeps (first ++ rest)) (filter keeps (first ++ rest)) ≡ []
        → (filter keeps (first ++ rest) ≡ [] → filter keeps first ≡ []) → cond kept (one ∷ filter keeps first) (filter keeps first) ≡ []
    by true none later = absurd cc
    by false none later = later none

pub none_handed : {A : Type 0} (keeps : A → Bool) (view : View) (waiting : List A) → filter keeps waiting ≡ [] → filter keeps (handed_of view waiting) ≡ []
none_handed keeps view waiting none =
    none_first keeps (handed_of view waiting) (left_of view waiting) (ap (filter keeps) (handed_first view waiting) ∙ none)

-- ---- the notes of pieces

pieces_open : (pieces : List (ℕ × Piece)) → AreOfOpenLinks (map note_received pieces)
pieces_open [] = tt
pieces_open (piece ∷ pieces) = (tt, pieces_open pieces)

pub handed_open : (facts : Facts) → AreOfOpenLinks (notes_pieces facts)
handed_open facts = pieces_open (pieces_handed facts)
