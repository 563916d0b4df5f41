-- What the cells say of the map that they stand for: one cell at a time, and after a change of one cell.
use Rattle.std.proofs.Common.{◌≡◌, ◌≢◌, inl, inr, ℕ, zero, suc, ◌+◌, ◌-◌, ◌<◌, Bool, true, false, cond, List, [], ◌∷◌, length, get_or, set, replicate, Option, Some, None, IsSome, refl, sym, ap, subst, ◌∙◌, arith}
use Rattle.std.proofs.lemmas.Bool.{cases_eq}
use Rattle.std.proofs.lemmas.List.{get_or-set_same, get_or-set_other}
use Rattle.std.specs.Ordering.{nat_cmp, eq_by_cmp}
use Rattle.std.specs.Cmp.{nat_cmp_total, eq_by_cmp_equiv, unsigned_tied}
use Rattle.std.specs.FinMap as map
use Rattle.raw_block.specs.declared.cell.Cell.{Cell}
use Rattle.raw_block.specs.declared.cell.Cell.TheVariants.{Free, Held}
use Rattle.raw_block.specs.Cells.{value_in, values_from, values_of}

same_number : (k : ℕ) → eq_by_cmp nat_cmp k k ≡ true
same_number k = (eq_by_cmp_equiv nat_cmp_total).refl k

other_number : (q k : ℕ) → q ≢ k → eq_by_cmp nat_cmp q k ≡ false
other_number q k differs = by_test (eq_by_cmp nat_cmp q k) refl
  where
    by_test : (b : Bool) → eq_by_cmp nat_cmp q k ≡ b → b ≡ false
    by_test false e = refl
    by_test true e = absurd (grind (arith, unsigned_tied q k))

module _ {T : Type 0} where
  get_insert_same : (m : map.FinMap nat_cmp T) (k : ℕ) (v : T) → map.get (map.insert m k v) k ≡ Some v
  get_insert_same m k v = map.get-insert nat_cmp_total m k v k ∙ ap (λ b. cond b (Some v) (map.get m k)) (same_number k)

  get_insert_other : (m : map.FinMap nat_cmp T) (k : ℕ) (v : T) (q : ℕ) → q ≢ k → map.get (map.insert m k v) q ≡ map.get m q
  get_insert_other m k v q differs = map.get-insert nat_cmp_total m k v q ∙ ap (λ b. cond b (Some v) (map.get m q)) (other_number q k differs)

  get_remove_same : (m : map.FinMap nat_cmp T) (k : ℕ) → map.get (map.remove m k) k ≡ None
  get_remove_same m k = map.get-remove nat_cmp_total m k k ∙ ap (λ b. cond b None (map.get m k)) (same_number k)

  get_remove_other : (m : map.FinMap nat_cmp T) (k q : ℕ) → q ≢ k → map.get (map.remove m k) q ≡ map.get m q
  get_remove_other m k q differs = map.get-remove nat_cmp_total m k q ∙ ap (λ b. cond b None (map.get m q)) (other_number q k differs)

  -- the cells hold nothing under a number below their first
  get_below : (first : ℕ) (cells : List (Option (Cell T))) (q : ℕ) → q < first → map.get (values_from first cells) q ≡ None
  get_below first [] q below = map.get-empty nat_cmp q
  get_below first (None ∷ rest) q below = get_below (first + 1) rest q (omega arith)
  get_below first (Some (Free next) ∷ rest) q below = get_below (first + 1) rest q (omega arith)
  get_below first (Some (Held v) ∷ rest) q below =
      get_insert_other (values_from (first + 1) rest) first v q (λ e. omega arith) ∙ get_below (first + 1) rest q (omega arith)

  get_from : (first : ℕ) (cells : List (Option (Cell T))) (k : ℕ) → map.get (values_from first cells) (first + k) ≡ value_in (get_or cells k None)
  get_from first [] k = map.get-empty nat_cmp (first + k)
  get_from first (None ∷ rest) zero = get_below (first + 1) rest (first + 0) (omega arith)
  get_from first (Some (Free next) ∷ rest) zero = get_below (first + 1) rest (first + 0) (omega arith)
  get_from first (Some (Held v) ∷ rest) zero =
      let e : first + 0 ≡ first = omega arith in
      rw e (get_insert_same (values_from (first + 1) rest) first v)
  get_from first (None ∷ rest) (suc k) =
      let e : first + suc k ≡ first + 1 + k = omega arith in
      rw e (get_from (first + 1) rest k)
  get_from first (Some (Free next) ∷ rest) (suc k) =
      let e : first + suc k ≡ first + 1 + k = omega arith in
      rw e (get_from (first + 1) rest k)
  get_from first (Some (Held v) ∷ rest) (suc k) =
      let e : first + suc k ≡ first + 1 + k = omega arith in
      get_insert_other (values_from (first + 1) rest) first v (first + suc k) (λ d. omega arith) ∙ rw e (get_from (first + 1) rest k)

  -- each cell holds what the map has under its number
  pub get-values_of : (cells : List (Option (Cell T))) (k : ℕ) → map.get (values_of cells) k ≡ value_in (get_or cells k None)
  unfolding values_of
  get-values_of cells k =
      let e : 0 + k ≡ k = omega arith in
      subst (λ q. map.get (values_from 0 cells) q ≡ value_in (get_or cells k None)) e (get_from 0 cells k)

  none_from : (first n : ℕ) → values_from {T = T} first (replicate n None) ≡ map.empty {X = T} {R = nat_cmp}
  none_from first zero = refl
  none_from first (suc n) = none_from (first + 1) n

  -- empty places hold nothing
  pub values_of-empty : (n : ℕ) → values_of {T = T} (replicate n None) ≡ map.empty {X = T} {R = nat_cmp}
  unfolding values_of
  values_of-empty n = none_from 0 n

  -- a value under a number is in the cell of that number
  pub held_in : (cells : List (Option (Cell T))) (k : ℕ) → IsSome (map.get (values_of cells) k) → (v : T) × (get_or cells k None ≡ Some (Held v))
  held_in cells k some = by_place (get_or cells k None) refl
    where
      by_place : (place : Option (Cell T)) → get_or cells k None ≡ place → (v : T) × (get_or cells k None ≡ Some (Held v))
      by_place None e =
          let none : map.get (values_of cells) k ≡ None = get-values_of cells k ∙ ap value_in e in
          absurd (cc)
      by_place (Some (Free next)) e =
          let none : map.get (values_of cells) k ≡ None = get-values_of cells k ∙ ap value_in e in
          absurd (cc)
      by_place (Some (Held v)) e = (v, e)

  module _ (cells : List (Option (Cell T))) (k : ℕ) (within : k < length cells) where
    -- a cell that is filled puts its number and its value into the map
    pub values_of-hold : (v : T) → values_of (set cells k (Some (Held v))) ≡ map.insert (values_of cells) k v
    values_of-hold v =
        map.same_map nat_cmp_total map.nat_cmp-IsAntisymmetric _ _ (λ q. elim (cases_eq q k) [
          | inl same ↦ get-values_of (set cells k (Some (Held v))) q
              ∙ rw same (ap value_in (get_or-set_same cells k (Some (Held v)) None within) ∙ sym (get_insert_same (values_of cells) k v))
          | inr differs ↦ get-values_of (set cells k (Some (Held v))) q
              ∙ ap value_in (get_or-set_other cells k q (Some (Held v)) None differs)
              ∙ sym (get-values_of cells q) ∙ sym (get_insert_other (values_of cells) k v q differs)
        ])

    -- a cell that is freed takes its number out of the map
    pub values_of-free : (next : ℕ) → values_of (set cells k (Some (Free next))) ≡ map.remove (values_of cells) k
    values_of-free next =
        map.same_map nat_cmp_total map.nat_cmp-IsAntisymmetric _ _ (λ q. elim (cases_eq q k) [
          | inl same ↦ get-values_of (set cells k (Some (Free next))) q
              ∙ rw same (ap value_in (get_or-set_same cells k (Some (Free next)) None within) ∙ sym (get_remove_same (values_of cells) k))
          | inr differs ↦ get-values_of (set cells k (Some (Free next))) q
              ∙ ap value_in (get_or-set_other cells k q (Some (Free next)) None differs)
              ∙ sym (get-values_of cells q) ∙ sym (get_remove_other (values_of cells) k q differs)
        ])

    -- an empty place that becomes a free cell leaves the map as it is
    pub values_of-chain : (next : ℕ) → get_or cells k None ≡ None → values_of (set cells k (Some (Free next))) ≡ values_of cells
    values_of-chain next none =
        map.same_map nat_cmp_total map.nat_cmp-IsAntisymmetric _ _ (λ q. elim (cases_eq q k) [
          | inl same ↦ get-values_of (set cells k (Some (Free next))) q
              ∙ rw same (ap value_in (get_or-set_same cells k (Some (Free next)) None within) ∙ sym (get-values_of cells k ∙ ap value_in none))
          | inr differs ↦ get-values_of (set cells k (Some (Free next))) q
              ∙ ap value_in (get_or-set_other cells k q (Some (Free next)) None differs) ∙ sym (get-values_of cells q)
        ])

  pub len_after_insert : (m : map.FinMap nat_cmp T) (k : ℕ) (v : T) → map.get m k ≡ None → map.len (map.insert m k v) ≡ map.len m + 1
  len_after_insert m k v none = map.len-insert nat_cmp_total m k v ∙ rw none refl

  -- a write to what is held keeps the count
  pub len_after_write : (m : map.FinMap nat_cmp T) (k : ℕ) (v : T) → IsSome (map.get m k) → map.len (map.insert m k v) ≡ map.len m
  len_after_write m k v some = map.len-insert nat_cmp_total m k v ∙ rw some refl

  pub len_after_remove : (m : map.FinMap nat_cmp T) (k : ℕ) → IsSome (map.get m k) → map.len (map.remove m k) + 1 ≡ map.len m
  len_after_remove m k some =
      let e : map.len (map.remove m k) ≡ map.len m - 1 = map.len-remove nat_cmp_total m k ∙ rw some refl in
      elim (cases_eq (map.len m) 0) [
        | inl nothing ↦
            let none : map.get m k ≡ None = ap (λ n. map.get n k) (map.empty_of_len m nothing) ∙ map.get-empty nat_cmp k in
            absurd (cc)
        | inr some_held ↦ omega arith
      ]
