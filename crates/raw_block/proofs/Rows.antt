-- Plain lemmas on the places of a region.
use Rattle.std.proofs.Common.{◌≡◌, ℕ, zero, suc, ◌<◌, List, [], ◌∷◌, length, get_or, replicate, Option, Some, None, refl, arith}

module _ {X : Type 0} where
  -- places of which each is empty
  pub all_empty : (held : List (Option X)) (n : ℕ) → length held ≡ n
      → ((k : ℕ) → k < n → get_or held k None ≡ None) → held ≡ replicate n None
  all_empty [] zero long none = refl
  all_empty [] (suc n) long none = absurd (omega arith)
  all_empty (place ∷ held) zero long none = absurd (omega arith)
  all_empty (place ∷ held) (suc n) long none =
      λ i. none 0 (omega arith) i ∷ all_empty held n (omega arith) (λ k below. none (suc k) (omega arith)) i

  -- a place that holds a value is one of them
  pub taken_within : (held : List (Option X)) (place : ℕ) (x : X) → get_or held place None ≡ Some x → place < length held
  taken_within [] place x e = cc
  taken_within (other ∷ held) zero x e = omega arith
  taken_within (other ∷ held) (suc place) x e = omega (arith, taken_within held place x e)
