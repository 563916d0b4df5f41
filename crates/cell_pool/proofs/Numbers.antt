-- What the cells say of the map that they stand for: one cell at a time, and after a change of one cell.
use Rattle.std.proofs.Common.{◌≡◌, ◌≢◌, ◌⊎◌, inl, inr, ℕ, zero, suc, ◌+◌, ◌-◌, ◌<◌, ◌≤◌, Bool, true, false, cond, List, [], ◌∷◌, ◌++◌, length, get_or, set, Option, Some, None, IsSome, is_some, IsTrue, ◌↔◌, refl, sym, ap, subst, ◌∙◌, arith}
use Rattle.std.proofs.lemmas.Bool.{cases_eq, cases_lt}
use Rattle.std.proofs.lemmas.List.{get_or-set_same, get_or-set_other, get_or_past, get_or_push, get_or_read}
use Rattle.std.specs.Ordering.{nat_cmp, eq_by_cmp}
use Rattle.std.specs.Cmp.{nat_cmp_total, eq_by_cmp_equiv, unsigned_tied}
use Rattle.std.specs.FinMap as map
use Rattle.cell_pool.specs.declared.cell.Cell.{Cell}
use Rattle.cell_pool.specs.declared.cell.Cell.TheVariants.{Free, Held}
use Rattle.cell_pool.specs.Cells.{value_of, values_from, values_of}

same_number : (k : ℕ) → eq_by_cmp nat_cmp k k ≡ true
same_number k = (eq_by_cmp_equiv nat_cmp_total).refl k

other_number : (q k : ℕ) → q ≢ k → eq_by_cmp nat_cmp q k ≡ false
other_number q k differs = by_test (eq_by_cmp nat_cmp q k) refl
  where
    by_test : (b : Bool) → eq_by_cmp nat_cmp q k ≡ b → b ≡ false
    by_test false e = refl
    by_test true e = absurd (grind (arith, unsigned_tied q k))

module _ {T : Type 0} where
  -- what a cell holds
  pub held_in : List (Cell T) → ℕ → Option T
  held_in cells k = value_of (get_or cells k Free)

  pub get_insert_same : (m : map.FinMap nat_cmp T) (k : ℕ) (v : T) → map.get (map.insert m k v) k ≡ Some v
  get_insert_same m k v = map.get-insert nat_cmp_total m k v k ∙ ap (λ b. cond b (Some v) (map.get m k)) (same_number k)

  pub get_insert_other : (m : map.FinMap nat_cmp T) (k : ℕ) (v : T) (q : ℕ) → q ≢ k → map.get (map.insert m k v) q ≡ map.get m q
  get_insert_other m k v q differs = map.get-insert nat_cmp_total m k v q ∙ ap (λ b. cond b (Some v) (map.get m q)) (other_number q k differs)

  get_remove_same : (m : map.FinMap nat_cmp T) (k : ℕ) → map.get (map.remove m k) k ≡ None
  get_remove_same m k = map.get-remove nat_cmp_total m k k ∙ ap (λ b. cond b None (map.get m k)) (same_number k)

  pub get_remove_other : (m : map.FinMap nat_cmp T) (k q : ℕ) → q ≢ k → map.get (map.remove m k) q ≡ map.get m q
  get_remove_other m k q differs = map.get-remove nat_cmp_total m k q ∙ ap (λ b. cond b None (map.get m q)) (other_number q k differs)

  -- the cells hold nothing under a number below their first
  get_below : (first : ℕ) (cells : List (Cell T)) (q : ℕ) → q < first → map.get (values_from first cells) q ≡ None
  get_below first [] q below = map.get-empty nat_cmp q
  get_below first (Free ∷ rest) q below = get_below (first + 1) rest q (omega arith)
  get_below first (Held v ∷ rest) q below =
      get_insert_other (values_from (first + 1) rest) first v q (λ e. omega arith) ∙ get_below (first + 1) rest q (omega arith)

  get_from : (first : ℕ) (cells : List (Cell T)) (k : ℕ) → map.get (values_from first cells) (first + k) ≡ value_of (get_or cells k Free)
  get_from first [] k = map.get-empty nat_cmp (first + k)
  get_from first (Free ∷ rest) zero = get_below (first + 1) rest (first + 0) (omega arith)
  get_from first (Held v ∷ rest) zero =
      let e : first + 0 ≡ first = omega arith in
      rw e (get_insert_same (values_from (first + 1) rest) first v)
  get_from first (Free ∷ rest) (suc k) =
      let e : first + suc k ≡ first + 1 + k = omega arith in
      rw e (get_from (first + 1) rest k)
  get_from first (Held v ∷ rest) (suc k) =
      let e : first + suc k ≡ first + 1 + k = omega arith in
      get_insert_other (values_from (first + 1) rest) first v (first + suc k) (λ d. omega arith) ∙ rw e (get_from (first + 1) rest k)

  -- each cell holds what the map has under its number
  pub get-values_of : (cells : List (Cell T)) (k : ℕ) → map.get (values_of cells) k ≡ value_of (get_or cells k Free)
  unfolding values_of
  get-values_of cells k =
      let e : 0 + k ≡ k = omega arith in
      subst (λ q. map.get (values_from 0 cells) q ≡ value_of (get_or cells k Free)) e (get_from 0 cells k)

  pub values_of-nil : values_of {T = T} [] ≡ map.empty {X = T} {R = nat_cmp}
  unfolding values_of
  values_of-nil = refl

  -- a value under a number is in a cell
  pub held_within : (cells : List (Cell T)) (k : ℕ) → IsSome (map.get (values_of cells) k) → k < length cells
  held_within cells k some =
      elim (cases_lt k (length cells)) [
        | inl below ↦ below
        | inr past ↦
            let none : map.get (values_of cells) k ≡ None = get-values_of cells k ∙ ap value_of (get_or_past cells k Free past) in
            absurd (cc)
      ]

  -- a cell that is read, where the map has a value under its number
  pub read_cell : (cells : List (Cell T)) (k : ℕ) (x : Cell T) → IsSome (map.get (values_of cells) k) → x ≡ get_or cells k x → get_or cells k Free ≡ x
  read_cell cells k x some read = sym (get_or_read cells k x (held_within cells k some) read Free)

  -- a cell within the list: it holds a value exactly where the map has one under its number
  pub read_at : (cells : List (Cell T)) (k : ℕ) (x : Cell T) (held : Bool) → k < length cells → x ≡ get_or cells k x → held ≡ is_some (value_of x) → IsTrue held ↔ IsSome (map.get (values_of cells) k)
  read_at cells k x held within read test =
      let e : map.get (values_of cells) k ≡ value_of x = get-values_of cells k ∙ ap value_of (sym (get_or_read cells k x within read Free)) in (
        λ h. rw e (sym test ∙ h),
        λ some. test ∙ subst IsSome e some,
      )

  pub read_value : (cells : List (Cell T)) (k : ℕ) (x : Cell T) → IsSome (map.get (values_of cells) k) → x ≡ get_or cells k x → map.get (values_of cells) k ≡ value_of x
  read_value cells k x some read = get-values_of cells k ∙ ap value_of (read_cell cells k x some read)

  pub read_is_held : (cells : List (Cell T)) (k : ℕ) (x : Cell T) → IsSome (map.get (values_of cells) k) → x ≡ get_or cells k x → IsSome (value_of x)
  read_is_held cells k x some read = subst IsSome (read_value cells k x some read) some

  -- a cell that is filled puts its number and its value into the map
  pub values_of-fill : (cells : List (Cell T)) (k : ℕ) (v : T) → k < length cells → values_of (set cells k (Held v)) ≡ map.insert (values_of cells) k v
  values_of-fill cells k v within =
      map.same_map nat_cmp_total map.nat_cmp-IsAntisymmetric _ _ (λ q. elim (cases_eq q k) [
        | inl same ↦ get-values_of (set cells k (Held v)) q
            ∙ rw same (ap value_of (get_or-set_same cells k (Held v) Free within) ∙ sym (get_insert_same (values_of cells) k v))
        | inr differs ↦ get-values_of (set cells k (Held v)) q
            ∙ ap value_of (get_or-set_other cells k q (Held v) Free differs)
            ∙ sym (get-values_of cells q) ∙ sym (get_insert_other (values_of cells) k v q differs)
      ])

  -- so does a cell that is new
  pub values_of-push : (cells : List (Cell T)) (v : T) → values_of (cells ++ Held v ∷ []) ≡ map.insert (values_of cells) (length cells) v
  values_of-push cells v =
      map.same_map nat_cmp_total map.nat_cmp-IsAntisymmetric _ _ (λ q. elim (cases_eq q (length cells)) [
        | inl same ↦ get-values_of (cells ++ Held v ∷ []) q
            ∙ rw same (ap value_of (get_or_push cells (Held v) Free (length cells) refl) ∙ sym (get_insert_same (values_of cells) (length cells) v))
        | inr differs ↦ get-values_of (cells ++ Held v ∷ []) q ∙ ap value_of (pushed cells (Held v) q differs)
            ∙ sym (get-values_of cells q) ∙ sym (get_insert_other (values_of cells) (length cells) v q differs)
      ])
    where
      pushed : (xs : List (Cell T)) (x : Cell T) (q : ℕ) → q ≢ length xs → get_or (xs ++ x ∷ []) q Free ≡ get_or xs q Free
      pushed [] x zero differs = absurd (differs refl)
      pushed [] x (suc q) differs = refl
      pushed (y ∷ ys) x zero differs = refl
      pushed (y ∷ ys) x (suc q) differs = pushed ys x q (λ e. differs (ap suc e))

  -- and a cell that is emptied takes its number out of the map
  pub values_of-empty : (cells : List (Cell T)) (k : ℕ) → k < length cells → values_of (set cells k Free) ≡ map.remove (values_of cells) k
  values_of-empty cells k within =
      map.same_map nat_cmp_total map.nat_cmp-IsAntisymmetric _ _ (λ q. elim (cases_eq q k) [
        | inl same ↦ get-values_of (set cells k Free) q
            ∙ rw same (ap value_of (get_or-set_same cells k Free Free within) ∙ sym (get_remove_same (values_of cells) k))
        | inr differs ↦ get-values_of (set cells k Free) q
            ∙ ap value_of (get_or-set_other cells k q Free Free differs)
            ∙ sym (get-values_of cells q) ∙ sym (get_remove_other (values_of cells) k q differs)
      ])

  pub len_after_insert : (m : map.FinMap nat_cmp T) (k : ℕ) (v : T) → map.get m k ≡ None → map.len (map.insert m k v) ≡ map.len m + 1
  len_after_insert m k v none = map.len-insert nat_cmp_total m k v ∙ rw none refl

  -- a write to what is held keeps the count
  pub len_after_write : (m : map.FinMap nat_cmp T) (k : ℕ) (v : T) → IsSome (map.get m k) → map.len (map.insert m k v) ≡ map.len m
  len_after_write m k v some = map.len-insert nat_cmp_total m k v ∙ rw some refl

  pub len_after_remove : (m : map.FinMap nat_cmp T) (k : ℕ) → IsSome (map.get m k) → map.len (map.remove m k) + 1 ≡ map.len m
  len_after_remove m k some =
      let e : map.len (map.remove m k) ≡ map.len m - 1 = map.len-remove nat_cmp_total m k ∙ rw some refl in
      elim (cases_eq (map.len m) 0) [
        | inl nothing ↦
            let none : map.get m k ≡ None = ap (λ n. map.get n k) (map.empty_of_len m nothing) ∙ map.get-empty nat_cmp k in
            absurd (cc)
        | inr some_held ↦ omega arith
      ]
