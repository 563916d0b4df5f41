-- What places and their cells say of the values in them, before and after a change of one place.
use Rattle.std.proofs.Common.{◌≡◌, ◌≢◌, ℕ, zero, suc, ◌+◌, ◌<◌, ◌≤◌, false, List, [], ◌∷◌, length, replicate, get_or, set, Option, Some, None, IsSome, is_some, refl, sym, ap, subst, ◌∙◌, arith, true≢false}
use Rattle.std.proofs.lemmas.List.{length-map, length-replicate, length-set, set-get_or}
use Rattle.std.specs.Ordering.{nat_cmp}
use Rattle.std.specs.FinMap as finite
use Rattle.cell_pool.specs.declared.pool.CellNo.{CellNo}
use Rattle.cell_pool.proofs.Numbers.{get_insert_same, get_insert_other, get_remove_other, len_after_insert, len_after_write, len_after_remove}
use Rattle.cell_table.specs.Cells.{value_in, values_at, IsHeld, AreHeld, HasNot, HaveNot, AreApart, cells_at, IsSound}

-- ---- places

-- no place but this one has this cell
abbrev HaveNotBut : ℕ → ℕ → List (Option CellNo) → Type 0
HaveNotBut cell place [] = Unit {0}
HaveNotBut cell zero (first ∷ places) = HaveNot cell places
HaveNotBut cell (suc place) (first ∷ places) = HasNot cell first × HaveNotBut cell place places

but_any : (cell place : ℕ) (places : List (Option CellNo)) → HaveNot cell places → HaveNotBut cell place places
but_any cell place [] away = tt
but_any cell zero (first ∷ places) away = away.1
but_any cell (suc place) (first ∷ places) away = (away.0, but_any cell place places away.1)

-- a cell that is at a place is not one that no place has
not_at : (cell : CellNo) (number place : ℕ) (places : List (Option CellNo)) → HaveNot number places
    → get_or places place None ≡ Some cell
    → cell.0 ≢ number
not_at cell number place [] away at = absurd cc
not_at cell number zero (first ∷ places) away at = subst (HasNot number) at away.0
not_at cell number (suc place) (first ∷ places) away at = not_at cell number place places away.1 at

but_here : (cell : CellNo) (place : ℕ) (places : List (Option CellNo)) → AreApart places
    → get_or places place None ≡ Some cell
    → HaveNotBut cell.0 place places
but_here cell place [] apart at = tt
but_here cell zero (None ∷ places) apart at = absurd cc
but_here cell zero (Some first ∷ places) apart at =
    (subst (λ (p : Option CellNo). AreApart (p ∷ places)) at apart).0
but_here cell (suc place) (None ∷ places) apart at = (tt, but_here cell place places apart at)
but_here cell (suc place) (Some first ∷ places) apart at =
    (λ same. not_at cell first.0 place places apart.0 at (sym same), but_here cell place places apart.1 at)

have_not_set : (cell place : ℕ) (new : Option CellNo) (places : List (Option CellNo)) → HaveNot cell places
    → HasNot cell new
    → HaveNot cell (set places place new)
have_not_set cell place new [] away other = tt
have_not_set cell zero new (first ∷ places) away other = (other, away.1)
have_not_set cell (suc place) new (first ∷ places) away other =
    (away.0, have_not_set cell place new places away.1 other)

apart_without : (place : ℕ) (places : List (Option CellNo)) → AreApart places → AreApart (set places place None)
apart_without place [] apart = tt
apart_without zero (None ∷ places) apart = apart
apart_without zero (Some first ∷ places) apart = apart.1
apart_without (suc place) (None ∷ places) apart = apart_without place places apart
apart_without (suc place) (Some first ∷ places) apart =
    (have_not_set first.0 place None places apart.0 tt, apart_without place places apart.1)

apart_with : (cell : CellNo) (place : ℕ) (places : List (Option CellNo)) → AreApart places → HaveNot cell.0 places
    → AreApart (set places place (Some cell))
apart_with cell place [] apart away = tt
apart_with cell zero (None ∷ places) apart away = (away.1, apart)
apart_with cell zero (Some first ∷ places) apart away = (away.1, apart.1)
apart_with cell (suc place) (None ∷ places) apart away = apart_with cell place places apart away.1
apart_with cell (suc place) (Some first ∷ places) apart away = (
  have_not_set first.0 place (Some cell) places apart.0 (λ same. away.0 (sym same)),
  apart_with cell place places
      apart.1 away.1,
)

is_none : {A : Type 0} (x : Option A) → is_some x ≡ false → x ≡ None
is_none None none = refl
is_none (Some x) none = absurd (true≢false none)

-- past the places there is nothing
pub past_it : {A : Type 0} (place : ℕ) (xs : List (Option A)) → length xs ≤ place → get_or xs place None ≡ None
past_it place [] past = refl
past_it zero (x ∷ xs) past = absurd (omega (arith, past))
past_it (suc place) (x ∷ xs) past = past_it place xs (omega (arith, past))

-- a place that has something is there
pub is_within : {A : Type 0} (place : ℕ) (xs : List (Option A)) → IsSome (get_or xs place None) → place < length xs
is_within place [] some = absurd (true≢false (sym some))
is_within zero (x ∷ xs) some = omega arith
is_within (suc place) (x ∷ xs) some = omega (arith, is_within place xs some)

more_cells : (cell : CellNo) (place : ℕ) (places : List (Option CellNo)) → place < length places
    → get_or places place None ≡ None
    → cells_at (set places place (Some cell)) ≡ cells_at places + 1
more_cells cell place [] within free = absurd (omega arith)
more_cells cell zero (None ∷ places) within free = omega arith
more_cells cell zero (Some first ∷ places) within free = absurd cc
more_cells cell (suc place) (None ∷ places) within free = more_cells cell place places (omega arith) free
more_cells cell (suc place) (Some first ∷ places) within free =
    omega (arith, more_cells cell place places (omega arith) free)

fewer_cells : (cell : CellNo) (place : ℕ) (places : List (Option CellNo)) → get_or places place None ≡ Some cell
    → cells_at (set places place None) + 1 ≡ cells_at places
fewer_cells cell place [] at = absurd cc
fewer_cells cell zero (None ∷ places) at = absurd cc
fewer_cells cell zero (Some first ∷ places) at = omega arith
fewer_cells cell (suc place) (None ∷ places) at = fewer_cells cell place places at
fewer_cells cell (suc place) (Some first ∷ places) at = omega (arith, fewer_cells cell place places at)

cells_fit : (places : List (Option CellNo)) → cells_at places ≤ length places
cells_fit [] = omega arith
cells_fit (None ∷ places) = omega (arith, cells_fit places)
cells_fit (Some cell ∷ places) = omega (arith, cells_fit places)

-- where a place has no cell, there are fewer cells than places
pub is_room : (place : ℕ) (places : List (Option CellNo)) → place < length places → get_or places place None ≡ None
    → cells_at places < length places
is_room place [] within free = absurd (omega arith)
is_room zero (None ∷ places) within free = omega (arith, cells_fit places)
is_room zero (Some cell ∷ places) within free = absurd cc
is_room (suc place) (None ∷ places) within free = omega (arith, is_room place places (omega arith) free)
is_room (suc place) (Some cell ∷ places) within free = omega (arith, is_room place places (omega arith) free)

no_cells : (n : ℕ) → cells_at (replicate n None) ≡ 0
no_cells zero = refl
no_cells (suc n) = no_cells n

none_apart : (n : ℕ) → AreApart (replicate n None)
none_apart zero = tt
none_apart (suc n) = none_apart n

-- ---- with the values in the cells

module _ {V : Type 0} where
  -- a change of one cell and of one place
  module _ (old new : finite.FinMap nat_cmp V) (cell : ℕ) (others : (q : ℕ) → q ≢ cell → finite.get new q ≡
      finite.get old q) where
    same_value : (place : Option CellNo) → HasNot cell place → value_in new place ≡ value_in old place
    same_value None away = refl
    same_value (Some other) away = others other.0 away

    same_values : (places : List (Option CellNo)) → HaveNot cell places → values_at new places ≡ values_at old places
    unfolding values_at
    same_values [] away = refl
    same_values (place ∷ places) away =
        ap (λ v. v ∷ values_at new places) (same_value place away.0)
        ∙ ap (λ rest. value_in old place ∷ rest) (same_values places away.1)

    changed_values : (place : ℕ) (p : Option CellNo) (places : List (Option CellNo)) → HaveNotBut cell place places
        → values_at new (set places place p) ≡ set (values_at old places) place (value_in new p)
    unfolding values_at
    changed_values place p [] away = refl
    changed_values zero p (first ∷ places) away = ap (λ rest. value_in new p ∷ rest) (same_values places away)
    changed_values (suc place) p (first ∷ places) away =
        ap (λ v. v ∷ values_at new (set places place p)) (same_value first away.0)
        ∙ ap (λ rest. value_in old first ∷ rest) (changed_values place p places away.1)

    still_held : (place : Option CellNo) → HasNot cell place → IsHeld old place → IsHeld new place
    still_held None away held = tt
    still_held (Some other) away held = subst IsSome (sym (others other.0 away)) held

    others_held : (places : List (Option CellNo)) → HaveNot cell places → AreHeld old places → AreHeld new places
    others_held [] away held = tt
    others_held (place ∷ places) away held = (still_held place away.0 held.0, others_held places away.1 held.1)

    changed_held : (place : ℕ) (p : Option CellNo) (places : List (Option CellNo)) → HaveNotBut cell place places
        → IsHeld new p
        → AreHeld old places → AreHeld new (set places place p)
    changed_held place p [] away here held = tt
    changed_held zero p (first ∷ places) away here held = (here, others_held places away held.1)
    changed_held (suc place) p (first ∷ places) away here held =
        (still_held first away.0 held.0, changed_held place p places away.1 here held.1)

  -- the value at a place
  pub value_at : (m : finite.FinMap nat_cmp V) (place : ℕ) (places : List (Option CellNo))
      → get_or (values_at m places) place None ≡ value_in m (get_or places place None)
  unfolding values_at
  value_at m place [] = refl
  value_at m zero (first ∷ places) = refl
  value_at m (suc place) (first ∷ places) = value_at m place places

  held_at : (m : finite.FinMap nat_cmp V) (place : ℕ) (places : List (Option CellNo)) → AreHeld m places
      → IsHeld m (get_or places place None)
  held_at m place [] held = tt
  held_at m zero (first ∷ places) held = held.0
  held_at m (suc place) (first ∷ places) held = held_at m place places held.1

  pub length_values : (m : finite.FinMap nat_cmp V) (places : List (Option CellNo))
      → length (values_at m places) ≡ length places
  unfolding values_at
  length_values m places = length-map places _

  -- a place has a value exactly where it has a cell
  some_of : (m : finite.FinMap nat_cmp V) (place : Option CellNo) → IsHeld m place
      → is_some (value_in m place) ≡ is_some place
  some_of m None held = refl
  some_of m (Some cell) held = held

  pub some_at : (m : finite.FinMap nat_cmp V) (place : ℕ) (places : List (Option CellNo)) → AreHeld m places
      → is_some (get_or (values_at m places) place None) ≡ is_some (get_or places place None)
  some_at m place places held =
      ap is_some (value_at m place places) ∙ some_of m (get_or places place None) (held_at m place places held)

  -- where there is a value there is a cell, and where there is none there is none
  pub has_cell : (m : finite.FinMap nat_cmp V) (place : ℕ) (places : List (Option CellNo)) → AreHeld m places
      → IsSome (get_or (values_at m places) place None) → IsSome (get_or places place None)
  has_cell m place places held some = sym (some_at m place places held) ∙ some

  pub free_at : (m : finite.FinMap nat_cmp V) (place : ℕ) (places : List (Option CellNo)) → AreHeld m places
      → get_or (values_at m places) place None ≡ None → get_or places place None ≡ None
  free_at m place places held free =
      is_none (get_or places place None) (sym (some_at m place places held) ∙ ap is_some free)

  pub cell_at : (m : finite.FinMap nat_cmp V) (place : ℕ) (places : List (Option CellNo)) (cell : CellNo)
      → AreHeld m places
      → get_or places place None ≡ Some cell → IsSome (finite.get m cell.0)
  cell_at m place places cell held at = subst (IsHeld m) at (held_at m place places held)

  pub read_at : (m : finite.FinMap nat_cmp V) (place : ℕ) (places : List (Option CellNo)) (cell : CellNo) (v : V)
      → get_or places place None ≡ Some cell → finite.get m cell.0 ≡ Some v → get_or (values_at m places) place None
      ≡ Some v
  read_at m place places cell v at value = value_at m place places ∙ ap (value_in m) at ∙ value

  -- nothing is in the places
  pub values_none : (n : ℕ) → values_at {V = V} finite.empty (replicate n None) ≡ replicate n None
  unfolding values_at
  values_none zero = refl
  values_none (suc n) = ap (λ rest. None ∷ rest) (values_none n)

  none_held : (m : finite.FinMap nat_cmp V) (n : ℕ) → AreHeld m (replicate n None)
  none_held m zero = tt
  none_held m (suc n) = (tt, none_held m n)

  pub IsSound-make : (n : ℕ) → IsSound {V = V} n finite.empty (replicate n None)
  IsSound-make n =
      record {
        long = length-replicate n None;
        total = finite.len-empty nat_cmp V ∙ sym (no_cells n);
        held = none_held finite.empty n;
        apart = none_apart n;
      }

  module _ (most : ℕ) (m : finite.FinMap nat_cmp V) (places : List (Option CellNo)) (sound : IsSound most m places)
      (place : ℕ) where
    -- the value at a place is written
    pub values_write : (cell : CellNo) (w : V) → get_or places place None ≡ Some cell
        → values_at (finite.insert m cell.0 w) places ≡ set (values_at m places) place (Some w)
    values_write cell w at =
        let new = finite.insert m cell.0 w in
        let same : set places place (Some cell) ≡ places =
        subst (λ (p : Option CellNo). set places place p ≡ places) at (set-get_or places place None) in
        subst (λ p. values_at new p ≡ set (values_at m places) place (Some w)) same
        (changed_values m new cell.0 (get_insert_other m cell.0 w) place (Some cell) places (but_here cell place
        places sound.apart at)
        ∙ ap (set (values_at m places) place) (get_insert_same m cell.0 w))

    pub IsSound-write : (cell : CellNo) (w : V) → get_or places place None ≡ Some cell
        → IsSound most (finite.insert m cell.0 w) places
    IsSound-write cell w at =
        let new = finite.insert m cell.0 w in
        let same : set places place (Some cell) ≡ places =
        subst (λ (p : Option CellNo). set places place p ≡ places) at (set-get_or places place None) in
        record {
          long = sound.long;
          total = len_after_write m cell.0 w (cell_at m place places cell sound.held at) ∙ sound.total;
          held = subst (AreHeld new) same
              (changed_held m new cell.0 (get_insert_other m cell.0 w) place (Some cell) places
              (but_here cell place places sound.apart at) (subst IsSome (sym (get_insert_same m cell.0 w)) refl)
              sound.held);
          apart = sound.apart;
        }

    -- a value is put into a free cell
    free_is_away : (cell : CellNo) → finite.get m cell.0 ≡ None → HaveNot cell.0 places
    free_is_away cell free = each places sound.held
      where
        each : (places : List (Option CellNo)) → AreHeld m places → HaveNot cell.0 places
        each [] held = tt
        each (None ∷ places) held = (tt, each places held.1)
        each (Some other ∷ places) held =
            (λ same. true≢false (sym (subst IsSome (ap (finite.get m) same ∙ free) held.0)), each places held.1)

    pub values_put : (cell : CellNo) (w : V) → finite.get m cell.0 ≡ None
        → values_at (finite.insert m cell.0 w) (set places place (Some cell)) ≡ set (values_at m places) place (Some w)
    values_put cell w free =
        changed_values m (finite.insert m cell.0 w) cell.0 (get_insert_other m cell.0 w) place (Some cell) places
        (but_any cell.0 place places (free_is_away cell free))
        ∙ ap (set (values_at m places) place) (get_insert_same m cell.0 w)

    pub IsSound-put : (cell : CellNo) (w : V) → finite.get m cell.0 ≡ None → place < most
        → get_or places place None ≡ None
        → IsSound most (finite.insert m cell.0 w) (set places place (Some cell))
    IsSound-put cell w free within none =
        let away = free_is_away cell free in
        record {
          long = length-set places place (Some cell) ∙ sound.long;
          total = omega (
            arith,
            len_after_insert m cell.0 w free,
            sound.total,
            more_cells cell place places (omega (arith, sound.long)) none,
          );
          held = changed_held m (finite.insert m cell.0 w) cell.0 (get_insert_other m cell.0 w) place (Some cell) places
              (but_any cell.0 place places away) (subst IsSome (sym (get_insert_same m cell.0 w)) refl) sound.held;
          apart = apart_with cell place places sound.apart away;
        }

    -- a value is taken
    pub values_take : (cell : CellNo) → get_or places place None ≡ Some cell
        → values_at (finite.remove m cell.0) (set places place None) ≡ set (values_at m places) place None
    values_take cell at =
        changed_values m (finite.remove m cell.0) cell.0 (get_remove_other m cell.0) place None places
        (but_here cell place places sound.apart at)

    pub IsSound-take : (cell : CellNo) → get_or places place None ≡ Some cell
        → IsSound most (finite.remove m cell.0) (set places place None)
    IsSound-take cell at =
        record {
          long = length-set places place None ∙ sound.long;
          total = omega (
            arith,
            len_after_remove m cell.0 (cell_at m place places cell sound.held at),
            sound.total,
            fewer_cells cell place places at,
          );
          held = changed_held m (finite.remove m cell.0) cell.0 (get_remove_other m cell.0) place None places
              (but_here cell place places sound.apart at) tt sound.held;
          apart = apart_without place places sound.apart;
        }
