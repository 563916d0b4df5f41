-- A list from which elements are removed from its end on.
use Rattle.std.proofs.Common.{◌≡◌, ℕ, ◌+◌, ◌-◌, ◌<◌, ◌≤◌, Bool, true, false, cond, not, List, [], ◌∷◌, ◌++◌, length, get_or, take, drop, refl, sym, ap, subst, ◌∙◌, arith, if◌then◌else◌}
use Rattle.std.proofs.lemmas.List.{take_all, drop_all, drop_more, take_more, append_assoc, length-take-le, append-nil, length-append, get_or_at}
use Rattle.std.specs.List.{filter, remove}

module _ {A : Type 0} (test : A → Bool) where
  -- the elements from this place on that pass the test were removed
  pub record IsSwept (old now : List A) (place : ℕ) : Type 0 where
    pub within : place ≤ length old
    pub now_is : now ≡ take place old ++ filter (λ x. not (test x)) (drop place old)

  pub swept_from_end : (old : List A) (place : ℕ) → place ≡ length old → IsSwept old old place
  swept_from_end old place at_end =
      record {
        within = omega arith;
        now_is = rw (take_all place old (omega arith), drop_all place old (omega arith)) (sym (append-nil old));
      }

  pub swept_whole : (old now : List A) (place : ℕ) → place ≡ 0 → IsSwept old now place → now ≡ filter (λ x. not (test x)) old
  swept_whole old now place nothing swept = swept.now_is ∙ rw nothing refl

  pub swept_within : (old now : List A) (place : ℕ) → 0 < place → IsSwept old now place → place - 1 < length now
  swept_within old now place some swept =
      omega (arith, swept.within, ap length swept.now_is, length-append (take place old) (filter (λ x. not (test x)) (drop place old)), length-take-le place old swept.within)

  some_element : (xs : List A) → 0 < length xs → A
  some_element [] some = absurd (omega arith)
  some_element (x ∷ xs) some = x

  -- one element before those that were swept
  one_more : (front kept : List A) (x : A) (b : Bool) → test x ≡ b → (if b then remove ((front ++ x ∷ []) ++ kept) (length front) else (front ++ x ∷ []) ++ kept) ≡ front ++ cond (not b) (x ∷ kept) kept
  one_more front kept x true e = removed front kept x
    where
      removed : (front kept : List A) (x : A) → remove ((front ++ x ∷ []) ++ kept) (length front) ≡ front ++ kept
      removed [] kept x = refl
      removed (y ∷ front) kept x = ap (λ rest. y ∷ rest) (removed front kept x)
  one_more front kept x false e = append_assoc front (x ∷ []) kept

  swept_at : (front kept : List A) (x : A) (now next : List A) (place : ℕ) → length front ≡ place → now ≡ (front ++ x ∷ []) ++ kept → ((d : A) → next ≡ (if test (get_or now place d) then remove now place else now)) → next ≡ front ++ cond (not (test x)) (x ∷ kept) kept
  swept_at front kept x now next place long shape step =
      let read : get_or ((front ++ x ∷ []) ++ kept) (length front) x ≡ x =
      rw (append_assoc front (x ∷ []) kept) (get_or_at front x kept x (length front) refl) in
      let stepped : next ≡ (if test (get_or ((front ++ x ∷ []) ++ kept) (length front) x) then remove ((front ++ x ∷ []) ++ kept) (length front) else (front ++ x ∷ []) ++ kept) =
      step x ∙ rw (shape, ← long) refl in
      stepped ∙ rw read (one_more front kept x (test x) refl)

  swept_next : (old now next : List A) (place : ℕ) → IsSwept old now (place + 1) → ((d : A) → next ≡ (if test (get_or now place d) then remove now place else now)) → IsSwept old next place
  swept_next old now next place swept step =
      let inside : place < length old = omega (arith, swept.within) in
      let d = some_element old (omega (arith, inside)) in
      let front : take (place + 1) old ≡ take place old ++ get_or old place d ∷ [] = take_more old place d inside in
      let back : drop place old ≡ get_or old place d ∷ drop (place + 1) old = drop_more old place d inside in
      let long : length (take place old) ≡ place = length-take-le place old (omega arith) in
      let shape : now ≡ (take place old ++ get_or old place d ∷ []) ++ filter (λ y. not (test y)) (drop (place + 1) old) =
      swept.now_is ∙ ap (λ f. f ++ filter (λ y. not (test y)) (drop (place + 1) old)) front in
      let next_is = swept_at (take place old) (filter (λ y. not (test y)) (drop (place + 1) old)) (get_or old place d) now next place long shape step in
      record {
        within = omega arith;
        now_is = next_is ∙ ap (λ r. take place old ++ filter (λ y. not (test y)) r) (sym back);
      }

  pub swept_more : (old now next : List A) (place : ℕ) → 0 < place → IsSwept old now place → ((d : A) → next ≡ (if test (get_or now (place - 1) d) then remove now (place - 1) else now)) → IsSwept old next (place - 1)
  swept_more old now next place some swept step =
      let same : place ≡ place - 1 + 1 = omega arith in
      swept_next old now next (place - 1) (subst (IsSwept old now) same swept) step
