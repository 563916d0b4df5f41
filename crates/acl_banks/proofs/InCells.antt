-- What a list of cells says of the values in them, before and after a change.
use Rattle.std.proofs.Common.{◌≡◌, ◌≢◌, inl, inr, ℕ, zero, suc, ◌+◌, ◌<◌, ◌≤◌, Bool, true, false, cond, List, [], ◌∷◌, ◌++◌, length, get_or, set, Option, Some, None, IsSome, refl, sym, ap, subst, ◌∙◌, arith, true≢false}
use Rattle.std.proofs.lemmas.Bool.{cases_eq}
use Rattle.std.proofs.lemmas.List.{length_push}
use Rattle.std.specs.Ordering.{nat_cmp, eq_by_cmp}
use Rattle.std.specs.Cmp.{nat_cmp_total, eq_by_cmp_equiv, unsigned_tied}
use Rattle.std.specs.FinMap as map
use Rattle.std.specs.List.{cons_option, remove}
use Rattle.cell_pool.specs.declared.pool.CellNo.{CellNo}
use Rattle.cell_pool.proofs.Numbers.{len_after_insert, len_after_write, len_after_remove}
use Rattle.acl_banks.specs.Cells.{values_in, AreHeld, IsAway, AreApart, IsSound}

same_number : (k : ℕ) → eq_by_cmp nat_cmp k k ≡ true
same_number k = (eq_by_cmp_equiv nat_cmp_total).refl k

other_number : (q k : ℕ) → q ≢ k → eq_by_cmp nat_cmp q k ≡ false
other_number q k differs = by_test (eq_by_cmp nat_cmp q k) refl
  where
    by_test : (b : Bool) → eq_by_cmp nat_cmp q k ≡ b → b ≡ false
    by_test false e = refl
    by_test true e = absurd (grind (arith, unsigned_tied q k))

-- a cell that is in the list is not one that is away from it
away_at : (cell : CellNo) (order : List CellNo) (place : ℕ) (d : CellNo) → IsAway cell order → place < length order → (get_or order place d).0 ≢ cell.0
away_at cell [] place d away within = absurd (omega arith)
away_at cell (c ∷ order) zero d away within = away.0
away_at cell (c ∷ order) (suc place) d away within = away_at cell order place d away.1 (omega arith)

away-remove : (cell : CellNo) (order : List CellNo) (place : ℕ) → IsAway cell order → IsAway cell (remove order place)
away-remove cell [] zero away = tt
away-remove cell [] (suc place) away = tt
away-remove cell (c ∷ order) zero away = away.1
away-remove cell (c ∷ order) (suc place) away = (away.0, away-remove cell order place away.1)

away-push : (cell next : CellNo) (order : List CellNo) → IsAway cell order → next.0 ≢ cell.0 → IsAway cell (order ++ next ∷ [])
away-push cell next [] away differs = (differs, tt)
away-push cell next (c ∷ order) away differs = (away.0, away-push cell next order away.1 differs)

apart-remove : (order : List CellNo) (place : ℕ) → AreApart order → AreApart (remove order place)
apart-remove [] zero apart = tt
apart-remove [] (suc place) apart = tt
apart-remove (c ∷ order) zero apart = apart.1
apart-remove (c ∷ order) (suc place) apart = (away-remove c order place apart.0, apart-remove order place apart.1)

apart-push : (cell : CellNo) (order : List CellNo) → IsAway cell order → AreApart order → AreApart (order ++ cell ∷ [])
apart-push cell [] away apart = (tt, tt)
apart-push cell (c ∷ order) away apart =
    (away-push c cell order apart.0 (λ e. away.0 (sym e)), apart-push cell order away.1 apart.1)

length-remove : {A : Type 0} (xs : List A) (place : ℕ) → place < length xs → length (remove xs place) + 1 ≡ length xs
length-remove [] place within = absurd (omega arith)
length-remove (x ∷ xs) zero within = omega arith
length-remove (x ∷ xs) (suc place) within = omega (arith, length-remove xs place (omega arith))

module _ {V : Type 0} where
  get_insert_same : (m : map.FinMap nat_cmp V) (k : ℕ) (v : V) → map.get (map.insert m k v) k ≡ Some v
  get_insert_same m k v = map.get-insert nat_cmp_total m k v k ∙ ap (λ b. cond b (Some v) (map.get m k)) (same_number k)

  get_insert_other : (m : map.FinMap nat_cmp V) (k : ℕ) (v : V) (q : ℕ) → q ≢ k → map.get (map.insert m k v) q ≡ map.get m q
  get_insert_other m k v q differs = map.get-insert nat_cmp_total m k v q ∙ ap (λ b. cond b (Some v) (map.get m q)) (other_number q k differs)

  get_remove_other : (m : map.FinMap nat_cmp V) (k q : ℕ) → q ≢ k → map.get (map.remove m k) q ≡ map.get m q
  get_remove_other m k q differs = map.get-remove nat_cmp_total m k q ∙ ap (λ b. cond b None (map.get m q)) (other_number q k differs)

  module _ (old new : map.FinMap nat_cmp V) (cell : CellNo) (others : (q : ℕ) → q ≢ cell.0 → map.get new q ≡ map.get old q) where
    -- two maps that agree on the cells of a list have the same values there
    same_values : (order : List CellNo) → IsAway cell order → values_in new order ≡ values_in old order
    unfolding values_in
    same_values [] away = refl
    same_values (other ∷ order) away =
        ap (λ o. cons_option o (values_in new order)) (others other.0 away.0)
        ∙ ap (λ rest. cons_option (map.get old other.0) rest) (same_values order away.1)

    same_held : (order : List CellNo) → IsAway cell order → AreHeld old order → AreHeld new order
    same_held [] away held = tt
    same_held (other ∷ order) away held =
        (subst IsSome (sym (others other.0 away.0)) held.0, same_held order away.1 held.1)

  -- the value at a place
  pub value_at : (m : map.FinMap nat_cmp V) (order : List CellNo) (place : ℕ) (d : CellNo) (v e : V) → AreHeld m order → place < length order → map.get m (get_or order place d).0 ≡ Some v → get_or (values_in m order) place e ≡ v
  unfolding values_in
  value_at m [] place d v e held within at = absurd (omega arith)
  value_at m (c ∷ order) zero d v e held within at = rw at refl
  value_at m (c ∷ order) (suc place) d v e held within at =
      by_value (map.get m c.0) refl held.0 (value_at m order place d v e held.1 (omega arith) at)
    where
      by_value : (o : Option V) → map.get m c.0 ≡ o → IsSome o → get_or (values_in m order) place e ≡ v → get_or (cons_option o (values_in m order)) (suc place) e ≡ v
      by_value None is some rest = absurd (true≢false (sym some))
      by_value (Some x) is some rest = rest

  pub held_at : (m : map.FinMap nat_cmp V) (order : List CellNo) (place : ℕ) (d : CellNo) → AreHeld m order → place < length order → IsSome (map.get m (get_or order place d).0)
  held_at m [] place d held within = absurd (omega arith)
  held_at m (c ∷ order) zero d held within = held.0
  held_at m (c ∷ order) (suc place) d held within = held_at m order place d held.1 (omega arith)

  pub length-values_in : (m : map.FinMap nat_cmp V) (order : List CellNo) → AreHeld m order → length (values_in m order) ≡ length order
  unfolding values_in
  length-values_in m [] held = refl
  length-values_in m (c ∷ order) held = by_value (map.get m c.0) held.0 (length-values_in m order held.1)
    where
      by_value : (o : Option V) → IsSome o → length (values_in m order) ≡ length order → length (cons_option o (values_in m order)) ≡ suc (length order)
      by_value None some rest = absurd (true≢false (sym some))
      by_value (Some x) some rest = ap suc rest

  -- a write to the cell at a place
  pub values_in-write : (m : map.FinMap nat_cmp V) (order : List CellNo) (place : ℕ) (cell : CellNo) (w : V) → AreHeld m order → AreApart order → place < length order → get_or order place cell ≡ cell → values_in (map.insert m cell.0 w) order ≡ set (values_in m order) place w
  unfolding values_in
  values_in-write m [] place cell w held apart within at = absurd (omega arith)
  values_in-write m (c ∷ order) zero cell w held apart within at =
      let here : map.get (map.insert m cell.0 w) c.0 ≡ Some w = ap (λ (k : CellNo). map.get (map.insert m cell.0 w) k.0) at ∙ get_insert_same m cell.0 w in
      let away : IsAway cell order = subst (λ k. IsAway k order) at apart.0 in
      let rest = same_values m (map.insert m cell.0 w) cell (get_insert_other m cell.0 w) order away in
      by_value (map.get m c.0) held.0 (ap (λ o. cons_option o (values_in (map.insert m cell.0 w) order)) here ∙ ap (λ r. w ∷ r) rest)
    where
      by_value : (o : Option V) → IsSome o → cons_option (map.get (map.insert m cell.0 w) c.0) (values_in (map.insert m cell.0 w) order) ≡ w ∷ values_in m order → cons_option (map.get (map.insert m cell.0 w) c.0) (values_in (map.insert m cell.0 w) order) ≡ set (cons_option o (values_in m order)) 0 w
      by_value None some e = absurd (true≢false (sym some))
      by_value (Some x) some e = e
  values_in-write m (c ∷ order) (suc place) cell w held apart within at =
      let inside : place < length order = omega arith in
      let differs : c.0 ≢ cell.0 = λ e. away_at c order place cell apart.0 inside (ap (λ (k : CellNo). k.0) at ∙ sym e) in
      let here : map.get (map.insert m cell.0 w) c.0 ≡ map.get m c.0 = get_insert_other m cell.0 w c.0 differs in
      let rest = values_in-write m order place cell w held.1 apart.1 inside at in
      by_value (map.get m c.0) held.0 (ap (λ o. cons_option o (values_in (map.insert m cell.0 w) order)) here ∙ ap (λ r. cons_option (map.get m c.0) r) rest)
    where
      by_value : (o : Option V) → IsSome o → cons_option (map.get (map.insert m cell.0 w) c.0) (values_in (map.insert m cell.0 w) order) ≡ cons_option o (set (values_in m order) place w) → cons_option (map.get (map.insert m cell.0 w) c.0) (values_in (map.insert m cell.0 w) order) ≡ set (cons_option o (values_in m order)) (suc place) w
      by_value None some e = absurd (true≢false (sym some))
      by_value (Some x) some e = e

  -- the cell at a place is taken out of the map and of the list
  pub values_in-remove : (m : map.FinMap nat_cmp V) (order : List CellNo) (place : ℕ) (cell : CellNo) → AreHeld m order → AreApart order → place < length order → get_or order place cell ≡ cell → values_in (map.remove m cell.0) (remove order place) ≡ remove (values_in m order) place
  unfolding values_in
  values_in-remove m [] place cell held apart within at = absurd (omega arith)
  values_in-remove m (c ∷ order) zero cell held apart within at =
      let away : IsAway cell order = subst (λ k. IsAway k order) at apart.0 in
      by_value (map.get m c.0) held.0 (same_values m (map.remove m cell.0) cell (get_remove_other m cell.0) order away)
    where
      by_value : (o : Option V) → IsSome o → values_in (map.remove m cell.0) order ≡ values_in m order → values_in (map.remove m cell.0) order ≡ remove (cons_option o (values_in m order)) 0
      by_value None some e = absurd (true≢false (sym some))
      by_value (Some x) some e = e
  values_in-remove m (c ∷ order) (suc place) cell held apart within at =
      let inside : place < length order = omega arith in
      let differs : c.0 ≢ cell.0 = λ e. away_at c order place cell apart.0 inside (ap (λ (k : CellNo). k.0) at ∙ sym e) in
      let here : map.get (map.remove m cell.0) c.0 ≡ map.get m c.0 = get_remove_other m cell.0 c.0 differs in
      let rest = values_in-remove m order place cell held.1 apart.1 inside at in
      by_value (map.get m c.0) held.0 (ap (λ o. cons_option o (values_in (map.remove m cell.0) (remove order place))) here ∙ ap (λ r. cons_option (map.get m c.0) r) rest)
    where
      by_value : (o : Option V) → IsSome o → cons_option (map.get (map.remove m cell.0) c.0) (values_in (map.remove m cell.0) (remove order place)) ≡ cons_option o (remove (values_in m order) place) → cons_option (map.get (map.remove m cell.0) c.0) (values_in (map.remove m cell.0) (remove order place)) ≡ remove (cons_option o (values_in m order)) (suc place)
      by_value None some e = absurd (true≢false (sym some))
      by_value (Some x) some e = e

  held-remove : (m : map.FinMap nat_cmp V) (order : List CellNo) (place : ℕ) (cell : CellNo) → AreHeld m order → AreApart order → place < length order → get_or order place cell ≡ cell → AreHeld (map.remove m cell.0) (remove order place)
  held-remove m [] place cell held apart within at = absurd (omega arith)
  held-remove m (c ∷ order) zero cell held apart within at =
      same_held m (map.remove m cell.0) cell (get_remove_other m cell.0) order (subst (λ k. IsAway k order) at apart.0) held.1
  held-remove m (c ∷ order) (suc place) cell held apart within at =
      let inside : place < length order = omega arith in
      let differs : c.0 ≢ cell.0 = λ e. away_at c order place cell apart.0 inside (ap (λ (k : CellNo). k.0) at ∙ sym e) in
      (subst IsSome (sym (get_remove_other m cell.0 c.0 differs)) held.0, held-remove m order place cell held.1 apart.1 inside at)

  held-write : (m : map.FinMap nat_cmp V) (k : ℕ) (w : V) (order : List CellNo) → AreHeld m order → AreHeld (map.insert m k w) order
  held-write m k w [] held = tt
  held-write m k w (c ∷ order) held = (by_number, held-write m k w order held.1)
    where
      by_number : IsSome (map.get (map.insert m k w) c.0)
      by_number = elim (cases_eq c.0 k) [
        | inl same ↦ subst (λ q. IsSome (map.get (map.insert m k w) q)) (sym same) (subst IsSome (sym (get_insert_same m k w)) refl)
        | inr differs ↦ subst IsSome (sym (get_insert_other m k w c.0 differs)) held.0
      ]

  -- a cell that held nothing is not in the list
  free_is_away : (m : map.FinMap nat_cmp V) (cell : CellNo) (order : List CellNo) → map.get m cell.0 ≡ None → AreHeld m order → IsAway cell order
  free_is_away m cell [] free held = tt
  free_is_away m cell (c ∷ order) free held =
      (λ same. true≢false (sym (subst IsSome (ap (map.get m) same ∙ free) held.0)), free_is_away m cell order free held.1)

  held-push : (m : map.FinMap nat_cmp V) (cell : CellNo) (order : List CellNo) → AreHeld m order → IsSome (map.get m cell.0) → AreHeld m (order ++ cell ∷ [])
  held-push m cell [] held some = (some, tt)
  held-push m cell (c ∷ order) held some = (held.0, held-push m cell order held.1 some)

  values_in-append : (m : map.FinMap nat_cmp V) (cell : CellNo) (w : V) (order : List CellNo) → map.get m cell.0 ≡ Some w → values_in m (order ++ cell ∷ []) ≡ values_in m order ++ w ∷ []
  unfolding values_in
  values_in-append m cell w [] at = rw at refl
  values_in-append m cell w (c ∷ order) at = by_value (map.get m c.0) (values_in-append m cell w order at)
    where
      by_value : (o : Option V) → values_in m (order ++ cell ∷ []) ≡ values_in m order ++ w ∷ [] → cons_option o (values_in m (order ++ cell ∷ [])) ≡ cons_option o (values_in m order) ++ w ∷ []
      by_value None e = e
      by_value (Some x) e = ap (λ r. x ∷ r) e

  pub values_in-push : (m : map.FinMap nat_cmp V) (cell : CellNo) (w : V) (order : List CellNo) → map.get m cell.0 ≡ None → AreHeld m order → values_in (map.insert m cell.0 w) (order ++ cell ∷ []) ≡ values_in m order ++ w ∷ []
  values_in-push m cell w order free held =
      values_in-append (map.insert m cell.0 w) cell w order (get_insert_same m cell.0 w)
      ∙ ap (λ vs. vs ++ w ∷ []) (same_values m (map.insert m cell.0 w) cell (get_insert_other m cell.0 w) order (free_is_away m cell order free held))

  pub IsSound-make : (most room : ℕ) → most ≤ room → IsSound {V = V} most map.empty [] room
  IsSound-make most room fits =
      record { fits = omega arith; room_left = fits; total = map.len-empty nat_cmp V; held = tt; apart = tt }

  pub values_in-empty : values_in {V = V} map.empty [] ≡ []
  unfolding values_in
  values_in-empty = refl

  -- the cell at a place, and its value, as they are read
  pub some_at : (m : map.FinMap nat_cmp V) (order : List CellNo) (place : ℕ) (cell : CellNo) → AreHeld m order → place < length order → cell ≡ get_or order place cell → IsSome (map.get m cell.0)
  some_at m order place cell held within at =
      subst (λ (c : CellNo). IsSome (map.get m c.0)) (sym at) (held_at m order place cell held within)

  pub read_at : (m : map.FinMap nat_cmp V) (order : List CellNo) (place : ℕ) (cell : CellNo) (v : V) → AreHeld m order → place < length order → cell ≡ get_or order place cell → map.get m cell.0 ≡ Some v → v ≡ get_or (values_in m order) place v
  read_at m order place cell v held within at value =
      sym (value_at m order place cell v v held within (subst (λ (c : CellNo). map.get m c.0 ≡ Some v) at value))

  module _ (most room : ℕ) (m : map.FinMap nat_cmp V) (order : List CellNo) (sound : IsSound most m order room) where
    pub IsSound-push : (cell : CellNo) (w : V) → map.get m cell.0 ≡ None → length order < most → IsSound most (map.insert m cell.0 w) (order ++ cell ∷ []) room
    IsSound-push cell w free below =
        let some : IsSome (map.get (map.insert m cell.0 w) cell.0) = subst IsSome (sym (get_insert_same m cell.0 w)) refl in
        record {
          fits = omega (arith, length_push order cell);
          room_left = sound.room_left;
          total = omega (arith, sound.total, len_after_insert m cell.0 w free, length_push order cell);
          held = held-push (map.insert m cell.0 w) cell order (held-write m cell.0 w order sound.held) some;
          apart = apart-push cell order (free_is_away m cell order free sound.held) sound.apart;
        }

    pub IsSound-write : (place : ℕ) (cell : CellNo) (w : V) → place < length order → cell ≡ get_or order place cell → IsSound most (map.insert m cell.0 w) order room
    IsSound-write place cell w within at =
        let some : IsSome (map.get m cell.0) = subst (λ (c : CellNo). IsSome (map.get m c.0)) (sym at) (held_at m order place cell sound.held within) in
        record {
          fits = sound.fits;
          room_left = sound.room_left;
          total = len_after_write m cell.0 w some ∙ sound.total;
          held = held-write m cell.0 w order sound.held;
          apart = sound.apart;
        }

    pub IsSound-remove : (place : ℕ) (cell : CellNo) → place < length order → cell ≡ get_or order place cell → IsSound most (map.remove m cell.0) (remove order place) room
    IsSound-remove place cell within at =
        let some : IsSome (map.get m cell.0) = subst (λ (c : CellNo). IsSome (map.get m c.0)) (sym at) (held_at m order place cell sound.held within) in
        let less = length-remove order place within in
        record {
          fits = omega (arith, sound.fits, less);
          room_left = sound.room_left;
          total = omega (arith, sound.total, len_after_remove m cell.0 some, less);
          held = held-remove m order place cell sound.held sound.apart within (sym at);
          apart = apart-remove order place sound.apart;
        }
