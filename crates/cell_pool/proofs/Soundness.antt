-- Each change of a pool keeps the list of its free cells right.
use Rattle.std.proofs.Common.{◌≡◌, ◌≢◌, ◌⊎◌, inl, inr, ℕ, zero, suc, ◌+◌, ◌-◌, ◌^◌, ◌<◌, ◌≤◌, List, [], ◌∷◌, ◌++◌, length, get_or, set, Option, Some, None, IsSome, refl, sym, ap, subst, ◌∙◌, arith, length-append, length-set}
use Rattle.std.proofs.lemmas.Bool.{cases_eq, cases_lt}
use Rattle.std.proofs.lemmas.List.{get_or-set_same, get_or-set_other, get_or_past, get_or_push, get_or_append_left, length_push}
use Rattle.std.specs.Ordering.{nat_cmp}
use Rattle.std.specs.FinMap as map
use Rattle.cell_pool.specs.declared.cell.Cell.{Cell}
use Rattle.cell_pool.specs.declared.cell.Cell.TheVariants.{Free, Held}
use Rattle.cell_pool.specs.Cells.{value_of, values_of, AreFree, IsSound}
use Rattle.cell_pool.proofs.Numbers.{get-values_of, values_of-nil, held_within, values_of-fill, values_of-push, values_of-empty, len_after_insert, len_after_write, len_after_remove}

module _ {T : Type 0} where
  -- the last number in the list is that of a free cell
  pub last_is_free : (cells : List (Cell T)) (free rest : List ℕ) (k : ℕ) → free ≡ rest ++ k ∷ [] → AreFree cells free → (k < length cells) × (get_or cells k Free ≡ Free)
  last_is_free cells all rest k is are =
      let free = subst (AreFree cells) is are in
      let e : get_or (rest ++ k ∷ []) (length rest) 0 ≡ k = get_or_push rest k 0 (length rest) refl in
      let below : length rest < length (rest ++ k ∷ []) = omega (arith, length_push rest k) in (
        subst (λ n. n < length cells) e (free.within (length rest) below),
        subst (λ n. get_or cells n Free ≡ Free) e (free.vacant (length rest) below),
      )

  -- once that cell is filled the others are free still
  others_stay_free : (cells : List (Cell T)) (rest : List ℕ) (k : ℕ) (cell : Cell T) → AreFree cells (rest ++ k ∷ []) → AreFree (set cells k cell) rest
  others_stay_free cells rest k cell free =
      let front = λ (i : ℕ) (h : i < length rest). get_or_append_left rest (k ∷ []) 0 i h in
      let last : get_or (rest ++ k ∷ []) (length rest) 0 ≡ k = get_or_push rest k 0 (length rest) refl in
      let longer : length (rest ++ k ∷ []) ≡ length rest + 1 = length_push rest k in
      let same = length-set cells k cell in record {
        within = λ i h. rw same (subst (λ n. n < length cells) (front i h) (free.within i (omega arith)));
        vacant = λ i h.
            let differs : get_or rest i 0 ≢ k = λ e. free.apart i (length rest) h (omega arith) (front i h ∙ e ∙ sym last) in
            get_or-set_other cells k (get_or rest i 0) cell Free differs
            ∙ subst (λ n. get_or cells n Free ≡ Free) (front i h) (free.vacant i (omega arith));
        apart = λ i j below h e. free.apart i j below (omega arith) (front i (omega arith) ∙ e ∙ sym (front j h));
      }

  -- a cell that held a value and is emptied is free with them
  one_more_free : (cells : List (Cell T)) (free : List ℕ) (k : ℕ) (v : T) → k < length cells → get_or cells k Free ≡ Held v → AreFree cells free → AreFree (set cells k Free) (free ++ k ∷ [])
  one_more_free cells free k v within held are =
      let front = λ (i : ℕ) (h : i < length free). get_or_append_left free (k ∷ []) 0 i h in
      let last : get_or (free ++ k ∷ []) (length free) 0 ≡ k = get_or_push free k 0 (length free) refl in
      let longer : length (free ++ k ∷ []) ≡ length free + 1 = length_push free k in
      let same = length-set cells k Free in
      let differs : (i : ℕ) → i < length free → get_or free i 0 ≢ k =
      λ i h e. apart_from_held (get_or free i 0) e (are.vacant i h) in record {
        within = λ i h. rw same (elim (cases_lt i (length free)) [
          | inl below ↦ rw (front i below) (are.within i below)
          | inr past ↦
              let at_end : i ≡ length free = omega arith in
              rw (at_end, last) within
        ]);
        vacant = λ i h. elim (cases_lt i (length free)) [
          | inl below ↦ rw (front i below) (get_or-set_other cells k (get_or free i 0) Free Free (differs i below) ∙ are.vacant i below)
          | inr past ↦
              let at_end : i ≡ length free = omega arith in
              rw (at_end, last) (get_or-set_same cells k Free Free within)
        ];
        apart = λ i j below h e. elim (cases_lt j (length free)) [
          | inl inside ↦ are.apart i j below inside (sym (front i (omega arith)) ∙ e ∙ front j inside)
          | inr past ↦
              let at_end : j ≡ length free = omega arith in
              differs i (omega arith) (sym (front i (omega arith)) ∙ e ∙ rw at_end last)
        ];
      }
    where
      apart_from_held : (n : ℕ) → n ≡ k → get_or cells n Free ≡ Free → ⊥
      apart_from_held n e vacant =
          let here : get_or cells k Free ≡ Free = subst (λ m. get_or cells m Free ≡ Free) e vacant in
          cc

  pub IsSound-make : (most room free_room : ℕ) → most < 2 ^ 32 → most ≤ room → most ≤ free_room → IsSound {T = T} most [] [] room free_room
  IsSound-make most room free_room numbered fits free_fits =
      let nothing : map.len (values_of {T = T} []) ≡ 0 = ap map.len values_of-nil ∙ map.len-empty nat_cmp T in record {
        numbered = numbered;
        fits = omega arith;
        room_left = fits;
        free_room_left = free_fits;
        total = omega arith;
        listed = record {
          within = λ i h. absurd (omega arith);
          vacant = λ i h. absurd (omega arith);
          apart = λ i j below h e. omega arith;
        };
      }

  module _ (most room free_room : ℕ) (cells : List (Cell T)) where
    pub IsSound-fill : (free rest : List ℕ) (k : ℕ) (v : T) → free ≡ rest ++ k ∷ [] → IsSound most cells free room free_room → IsSound most (set cells k (Held v)) rest room free_room
    IsSound-fill free rest k v e sound =
        let listed = subst (AreFree cells) e sound.listed in
        let first = last_is_free cells free rest k e sound.listed in
        let none : map.get (values_of cells) k ≡ None = get-values_of cells k ∙ ap value_of first.1 in
        let more = ap map.len (values_of-fill cells k v first.0) ∙ len_after_insert (values_of cells) k v none in record {
          numbered = sound.numbered;
          fits = omega (arith, sound.fits, length-set cells k (Held v));
          room_left = sound.room_left;
          free_room_left = sound.free_room_left;
          total = omega (arith, more, sound.total, ap length e, length_push rest k, length-set cells k (Held v));
          listed = others_stay_free cells rest k (Held v) listed;
        }

    pub IsSound-push : (free left : List ℕ) (v : T) → length cells < most → length free ≡ 0 → length left ≡ 0 → IsSound most cells free room free_room → IsSound most (cells ++ Held v ∷ []) left room free_room
    IsSound-push free left v below nothing none_left sound =
        let none : map.get (values_of cells) (length cells) ≡ None =
        get-values_of cells (length cells) ∙ ap value_of (get_or_past cells (length cells) Free (omega arith)) in
        let more = ap map.len (values_of-push cells v) ∙ len_after_insert (values_of cells) (length cells) v none in record {
          numbered = sound.numbered;
          fits = omega (arith, length_push cells (Held v));
          room_left = sound.room_left;
          free_room_left = sound.free_room_left;
          total = omega (arith, more, sound.total, length_push cells (Held v));
          listed = record {
            within = λ i h. absurd (omega arith);
            vacant = λ i h. absurd (omega arith);
            apart = λ i j first h e. omega arith;
          };
        }

    pub IsSound-empty : (free : List ℕ) (k : ℕ) (v : T) → IsSome (map.get (values_of cells) k) → get_or cells k Free ≡ Held v → IsSound most cells free room free_room → IsSound most (set cells k Free) (free ++ k ∷ []) room free_room
    IsSound-empty free k v some held sound =
        let within = held_within cells k some in
        let less = len_after_remove (values_of cells) k some in
        let after = ap map.len (values_of-empty cells k within) in record {
          numbered = sound.numbered;
          fits = omega (arith, sound.fits, length-set cells k Free);
          room_left = sound.room_left;
          free_room_left = sound.free_room_left;
          total = omega (arith, less, after, sound.total, length_push free k, length-set cells k Free);
          listed = one_more_free cells free k v within held sound.listed;
        }

    pub IsSound-write : (free : List ℕ) (k : ℕ) (v w : T) → IsSome (map.get (values_of cells) k) → get_or cells k Free ≡ Held v → IsSound most cells free room free_room → IsSound most (set cells k (Held w)) free room free_room
    IsSound-write free k v w some held sound =
        let within = held_within cells k some in
        let same = ap map.len (values_of-fill cells k w within) ∙ len_after_write (values_of cells) k w some in record {
          numbered = sound.numbered;
          fits = omega (arith, sound.fits, length-set cells k (Held w));
          room_left = sound.room_left;
          free_room_left = sound.free_room_left;
          total = omega (arith, same, sound.total, length-set cells k (Held w));
          listed = record {
            within = λ i h. rw (length-set cells k (Held w)) (sound.listed.within i h);
            vacant = λ i h. get_or-set_other cells k (get_or free i 0) (Held w) Free (λ e. vacant_differs (get_or free i 0) e (sound.listed.vacant i h)) ∙ sound.listed.vacant i h;
            apart = sound.listed.apart;
          };
        }
      where
        vacant_differs : (n : ℕ) → n ≡ k → get_or cells n Free ≡ Free → ⊥
        vacant_differs n e vacant =
            let here : get_or cells k Free ≡ Free = subst (λ m. get_or cells m Free ≡ Free) e vacant in
            cc
