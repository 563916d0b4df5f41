-- The file of a name, after a write at its place and after a new file.
use Rattle.std.proofs.Common.{◌≡◌, ◌≢◌, ℕ, ◌<◌, ◌≤◌, Bool, true, false, List, [], ◌∷◌, ◌++◌, Option, Some, None, length, get_or, set, refl, sym, ◌∙◌, ap, subst, inl, inr, ◌⊎◌, arith}
use Rattle.std.specs.List.{position, position_or_len, slice_get}
use Rattle.std.specs.Str.{bytes_eq}
use Rattle.std.specs.Option.{option_or}
use Rattle.std.proofs.lemmas.Grind.{common_steps}
use Rattle.std.proofs.lemmas.Bool.Decides.{nat_tests}
use Rattle.std.proofs.lemmas.Option.{slice_get-get_or, slice_get_past}
use Rattle.std.proofs.lemmas.List.Folds.{find_at, find-set, find_past, find-append}
use Rattle.std.proofs.lemmas.List.Quantifiers.{position-Some}
use Rattle.std.proofs.lemmas.Slice.Eq.{bytes_eq-Decides}
use Rattle.outside.specs.FileStore.{StoredFile, file_of}

-- a test of names
abbrev is_name : List ℕ → StoredFile → Bool
is_name name file = bytes_eq file.name name

same_name : (a b : List ℕ) → bytes_eq a b ≡ true → a ≡ b
same_name a b h = (bytes_eq-Decides a b).0 h

pub name_is_itself : (a : List ℕ) → bytes_eq a a ≡ true
name_is_itself a = (bytes_eq-Decides a a).1 refl

option_or_none : {X : Type 0} (o : Option X) → option_or o None ≡ o
option_or_none None = refl
option_or_none (Some x) = refl

place_is : {X : Type 0} (p : X → Bool) (xs : List X) (i : ℕ) → position p xs ≡ Some i → i ≡ position_or_len p xs
place_is p xs i at = grind (arith, common_steps)

past_place : {X : Type 0} (p : X → Bool) (xs : List X) → position p xs ≡ None → length xs ≤ position_or_len p xs
past_place p xs at = grind (arith, nat_tests)

-- the file at the place of a name is the file of that name
pub file_at : (held : List StoredFile) (name : List ℕ) (i : ℕ) (d : StoredFile)
    → position (λ file. bytes_eq file.name name) held ≡ Some i → file_of held name ≡ Some (get_or held i d)
file_at held name i d at =
    let found = position-Some (is_name name) held i d at in
    find_at (is_name name) held ∙ ap (λ n. slice_get held n) (sym (place_is (is_name name) held i at))
    ∙ slice_get-get_or held i d found.0

-- where a name has no place, it has no file
pub no_file : (held : List StoredFile) (name : List ℕ)
    → position (λ file. bytes_eq file.name name) held ≡ None → file_of held name ≡ None
no_file held name at = find_at (is_name name) held ∙ slice_get_past held _ (past_place (is_name name) held at)

-- two names are one, or the test tells them apart
pub name_cases : (a b : List ℕ) → ((bytes_eq a b ≡ true) × (a ≡ b)) ⊎ (bytes_eq a b ≡ false)
name_cases a b = by_test (bytes_eq a b) refl
  where
    by_test : (t : Bool) → bytes_eq a b ≡ t → ((bytes_eq a b ≡ true) × (a ≡ b)) ⊎ (bytes_eq a b ≡ false)
    by_test true is = inl (is, same_name a b is)
    by_test false is = inr is

pub name_differs : (a b : List ℕ) → b ≢ a → bytes_eq a b ≡ false
name_differs a b differs = by_case (name_cases a b)
  where
    by_case : ((bytes_eq a b ≡ true) × (a ≡ b)) ⊎ (bytes_eq a b ≡ false) → bytes_eq a b ≡ false
    by_case (inl (is, e)) = absurd (differs (sym e))
    by_case (inr is) = is

-- after a write of a file of the same name at the place of a name, that name has the new file in
-- place of the old one, and each other name the file that it had
pub file_of-set : (held : List StoredFile) (name : List ℕ) (i : ℕ) (y d : StoredFile)
    → position (λ file. bytes_eq file.name name) held ≡ Some i → y.name ≡ (get_or held i d).name
    → (other : List ℕ)
    → ((bytes_eq name other ≡ true) × (file_of held other ≡ Some (get_or held i d)) × (file_of (set held i y) other ≡ Some y))
    ⊎ ((bytes_eq name other ≡ false) × (file_of (set held i y) other ≡ file_of held other))
file_of-set held name i y d at same other = by_case (name_cases name other)
  where
    found : (i < length held) × (is_name name (get_or held i d) ≡ true) × ((k : ℕ) → k < i → is_name name (get_or held k d) ≡ false)
    found = position-Some (is_name name) held i d at

    named : is_name name y ≡ true
    named = rw same found.1

    here : file_of (set held i y) name ≡ Some y
    here = find-set (is_name name) held i y (place_is (is_name name) held i at) found.0 named

    is_named : (get_or held i d).name ≡ name
    is_named = same_name (get_or held i d).name name found.1

    by_case : ((bytes_eq name other ≡ true) × (name ≡ other)) ⊎ (bytes_eq name other ≡ false)
        → ((bytes_eq name other ≡ true) × (file_of held other ≡ Some (get_or held i d)) × (file_of (set held i y) other ≡ Some y))
        ⊎ ((bytes_eq name other ≡ false) × (file_of (set held i y) other ≡ file_of held other))
    by_case (inl (is, e)) =
        inl (is, subst (λ n. file_of held n ≡ Some (get_or held i d)) e (file_at held name i d at), subst (λ n. file_of (set held i y) n ≡ Some y) e here)
    by_case (inr is) =
        let old : is_name other (get_or held i d) ≡ false = rw is_named is in
        let new : is_name other y ≡ false = rw (same, is_named) is in
        inr (is, find_past (is_name other) held i y d old new)

-- a new file of a name that had none is the file of that name alone
pub file_of_push : (held : List StoredFile) (name : List ℕ) (y : StoredFile)
    → position (λ file. bytes_eq file.name name) held ≡ None → y.name ≡ name
    → (other : List ℕ)
    → ((bytes_eq name other ≡ true) × (file_of held other ≡ None) × (file_of (held ++ y ∷ []) other ≡ Some y))
    ⊎ ((bytes_eq name other ≡ false) × (file_of (held ++ y ∷ []) other ≡ file_of held other))
file_of_push held name y at same other = by_case (name_cases name other)
  where
    by_case : ((bytes_eq name other ≡ true) × (name ≡ other)) ⊎ (bytes_eq name other ≡ false)
        → ((bytes_eq name other ≡ true) × (file_of held other ≡ None) × (file_of (held ++ y ∷ []) other ≡ Some y))
        ⊎ ((bytes_eq name other ≡ false) × (file_of (held ++ y ∷ []) other ≡ file_of held other))
    by_case (inl (is, e)) =
        let none : file_of held other ≡ None = rw (← e) (no_file held name at) in
        inl (is, none, rw (find-append (is_name other) held (y ∷ []), none, same, is) refl)
    by_case (inr is) =
        inr (is, rw (find-append (is_name other) held (y ∷ []), same, is) (option_or_none (file_of held other)))
