-- The packets of one link among all packets, before and after each call.
use Rattle.std.proofs.Common.{◌≡◌, Bool, true, false, not, ◌&&◌, List, [], ◌∷◌, refl, ap}
use Rattle.std.specs.List.{filter, find}
use Rattle.acl_banks.specs.Packets.{with_first, without_first}

module _ {A : Type 0} (of : A → Bool) where
  module _ (test : A → Bool) where
    -- the first of some elements that passes a test, sought among those elements
    pub find-filter : (xs : List A) → find (λ x. of x && test x) xs ≡ find test (filter of xs)
    find-filter [] = refl
    find-filter (x ∷ xs) = by_tests (of x) (test x) refl refl (find-filter xs)
      where
        by_tests : (b t : Bool) → of x ≡ b → test x ≡ t → find (λ y. of y && test y) xs ≡ find test (filter of xs) → find (λ y. of y && test y) (x ∷ xs) ≡ find test (filter of (x ∷ xs))
        by_tests true true e f rest = simp (e, f) refl
        by_tests true false e f rest = simp (e, f) rest
        by_tests false t e f rest = simp (e, f) rest

    pub filter-without_first : (xs : List A) → filter of (without_first (λ x. of x && test x) xs) ≡ without_first test (filter of xs)
    filter-without_first [] = refl
    filter-without_first (x ∷ xs) = by_tests (of x) (test x) refl refl (filter-without_first xs)
      where
        by_tests : (b t : Bool) → of x ≡ b → test x ≡ t → filter of (without_first (λ y. of y && test y) xs) ≡ without_first test (filter of xs) → filter of (without_first (λ y. of y && test y) (x ∷ xs)) ≡ without_first test (filter of (x ∷ xs))
        by_tests true true e f rest = simp (e, f) refl
        by_tests true false e f rest = simp (e, f) (ap (λ r. x ∷ r) rest)
        by_tests false t e f rest = simp (e, f) rest

    module _ (change : A → A) where
      pub filter-with_first : ((x : A) → of (change x) ≡ of x) → (xs : List A) → filter of (with_first (λ x. of x && test x) change xs) ≡ with_first test change (filter of xs)
      filter-with_first keeps [] = refl
      filter-with_first keeps (x ∷ xs) = by_tests (of x) (test x) refl refl (filter-with_first keeps xs)
        where
          by_tests : (b t : Bool) → of x ≡ b → test x ≡ t → filter of (with_first (λ y. of y && test y) change xs) ≡ with_first test change (filter of xs) → filter of (with_first (λ y. of y && test y) change (x ∷ xs)) ≡ with_first test change (filter of (x ∷ xs))
          by_tests true true e f rest = simp (e, f, keeps x) refl
          by_tests true false e f rest = simp (e, f) (ap (λ r. x ∷ r) rest)
          by_tests false t e f rest = simp (e, f) rest

  pub none-filter : (xs : List A) → filter of (filter (λ x. not (of x)) xs) ≡ []
  none-filter [] = refl
  none-filter (x ∷ xs) = by_test (of x) refl (none-filter xs)
    where
      by_test : (b : Bool) → of x ≡ b → filter of (filter (λ y. not (of y)) xs) ≡ [] → filter of (filter (λ y. not (of y)) (x ∷ xs)) ≡ []
      by_test true e rest = simp e rest
      by_test false e rest = simp e rest

module _ {A : Type 0} (test other : A → Bool) (apart : (x : A) → test x ≡ true → other x ≡ false) where
  -- what is changed or removed is none of the others
  pub others-without_first : (xs : List A) → filter other (without_first test xs) ≡ filter other xs
  others-without_first [] = refl
  others-without_first (x ∷ xs) = by_test (test x) refl (others-without_first xs)
    where
      by_test : (b : Bool) → test x ≡ b → filter other (without_first test xs) ≡ filter other xs → filter other (without_first test (x ∷ xs)) ≡ filter other (x ∷ xs)
      by_test true e rest = simp (e, apart x e) refl
      by_test false e rest = simp e (by_other (other x) refl rest)
        where
          by_other : (b : Bool) → other x ≡ b → filter other (without_first test xs) ≡ filter other xs → filter other (x ∷ without_first test xs) ≡ filter other (x ∷ xs)
          by_other true o rest = simp o (ap (λ r. x ∷ r) rest)
          by_other false o rest = simp o rest

  pub others-with_first : (change : A → A) → ((x : A) → other (change x) ≡ other x) → (xs : List A) → filter other (with_first test change xs) ≡ filter other xs
  others-with_first change keeps [] = refl
  others-with_first change keeps (x ∷ xs) = by_test (test x) refl (others-with_first change keeps xs)
    where
      by_test : (b : Bool) → test x ≡ b → filter other (with_first test change xs) ≡ filter other xs → filter other (with_first test change (x ∷ xs)) ≡ filter other (x ∷ xs)
      by_test true e rest = simp (e, keeps x, apart x e) refl
      by_test false e rest = simp e (by_other (other x) refl rest)
        where
          by_other : (b : Bool) → other x ≡ b → filter other (with_first test change xs) ≡ filter other xs → filter other (x ∷ with_first test change xs) ≡ filter other (x ∷ xs)
          by_other true o rest = simp o (ap (λ r. x ∷ r) rest)
          by_other false o rest = simp o rest

  pub others-filter : (xs : List A) → filter other (filter (λ x. not (test x)) xs) ≡ filter other xs
  others-filter [] = refl
  others-filter (x ∷ xs) = by_test (test x) refl (others-filter xs)
    where
      by_test : (b : Bool) → test x ≡ b → filter other (filter (λ y. not (test y)) xs) ≡ filter other xs → filter other (filter (λ y. not (test y)) (x ∷ xs)) ≡ filter other (x ∷ xs)
      by_test true e rest = simp (e, apart x e) rest
      by_test false e rest = simp e (by_other (other x) refl rest)
        where
          by_other : (b : Bool) → other x ≡ b → filter other (filter (λ y. not (test y)) xs) ≡ filter other xs → filter other (x ∷ filter (λ y. not (test y)) xs) ≡ filter other (x ∷ xs)
          by_other true o rest = simp o (ap (λ r. x ∷ r) rest)
          by_other false o rest = simp o rest
