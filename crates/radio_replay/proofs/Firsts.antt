-- A list by its first element.
use Rattle.std.proofs.Common.{◌≡◌, ℕ, List, [], ◌∷◌, drop, Some, None, refl}
use Rattle.std.specs.Prelude.{slice_get}

pub first_and_rest : {A : Type 0} (xs : List A) (x : A) → slice_get xs 0 ≡ Some x → xs ≡ x ∷ drop 1 xs
first_and_rest [] x e = absurd (cc)
first_and_rest (y ∷ ys) x e = cc

pub nothing_left : {A : Type 0} (xs : List A) → slice_get xs 0 ≡ None → xs ≡ []
nothing_left [] e = refl
nothing_left (y ∷ ys) e = absurd (cc)

-- the second, the third, and those after them, taken one at a time
pub second_of : (xs : List (List ℕ)) → slice_get (drop 1 xs) 0 ≡ slice_get xs 1
second_of [] = refl
second_of (x ∷ xs) = refl

pub third_of : (xs : List (List ℕ)) → slice_get (drop 1 (drop 1 xs)) 0 ≡ slice_get xs 2
third_of [] = refl
third_of (x ∷ []) = refl
third_of (x ∷ y ∷ xs) = refl

pub fourth_on : (xs : List (List ℕ)) → drop 1 (drop 1 (drop 1 xs)) ≡ drop 3 xs
fourth_on [] = refl
fourth_on (x ∷ []) = refl
fourth_on (x ∷ y ∷ []) = refl
fourth_on (x ∷ y ∷ z ∷ xs) = refl
