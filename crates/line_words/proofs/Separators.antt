-- The parts of octets, by the place of their first separator.
use Rattle.std.proofs.Common.{◌≡◌, ℕ, suc, ◌+◌, ◌-◌, Bool, true, false, cond, List, [], ◌∷◌, length, take, drop, Some, None, refl, arith}
use Rattle.std.specs.Prelude.{Option, ◌≢◌, ◌==◌, unwrap_or}
use Rattle.std.specs.List.{position_from, slice_split, onto_first}
use Rattle.std.proofs.lemmas.List.{take_rest}
use Rattle.std.proofs.lemmas.List.Splits.{length-slice_split, join_with_byte-slice_split}
use Rattle.line_words.specs.Parts.{only_part, parts_after}
use Rattle.line_words.specs.Text.{newline, lines_of, lines_of_parts}

none_step : (b : Bool) (k x : ℕ) (xs : List ℕ) (later : Option ℕ) (parts : List (List ℕ)) → cond b (Some k) later ≡ None → (later ≡ None → parts ≡ xs ∷ []) → cond b ([] ∷ parts) (onto_first x parts) ≡ (x ∷ xs) ∷ []
none_step true k x xs later parts e h = absurd (cc)
none_step false k x xs later parts e h = rw (h e) refl

-- a list without a separator is one part
pub one_part : (p : ℕ → Bool) (k : ℕ) (xs : List ℕ) → position_from p k xs ≡ None → slice_split p xs ≡ xs ∷ []
one_part p k [] e = refl
one_part p k (x ∷ xs) e = none_step (p x) k x xs (position_from p (k + 1) xs) (slice_split p xs) e (one_part p (k + 1) xs)

some_step : (p : ℕ → Bool) (b : Bool) (k x : ℕ) (xs : List ℕ) (i : ℕ) (later : Option ℕ) → cond b (Some k) later ≡ Some i
    → (later ≡ Some i → (m : ℕ) × (i ≡ (k + 1) + m) × (slice_split p xs ≡ take m xs ∷ slice_split p (drop (suc m) xs)))
    → (m : ℕ) × (i ≡ k + m) × (cond b ([] ∷ slice_split p xs) (onto_first x (slice_split p xs)) ≡ take m (x ∷ xs) ∷ slice_split p (drop (suc m) (x ∷ xs)))
some_step p true k x xs i later e h = let same : k ≡ i = cc in (0, omega arith, refl)
some_step p false k x xs i later e h = let r = h e in (suc r.0, omega (arith, r.1), rw r.2 refl)

first_from : (p : ℕ → Bool) (k : ℕ) (xs : List ℕ) (i : ℕ) → position_from p k xs ≡ Some i → (m : ℕ) × (i ≡ k + m) × (slice_split p xs ≡ take m xs ∷ slice_split p (drop (suc m) xs))
first_from p k [] i e = absurd (cc)
first_from p k (x ∷ xs) i e = some_step p (p x) k x xs i (position_from p (k + 1) xs) e (first_from p (k + 1) xs i)

first_part_to : (p : ℕ → Bool) (xs : List ℕ) (m i : ℕ) → m ≡ i → suc m ≡ i + 1 → slice_split p xs ≡ take m xs ∷ slice_split p (drop (suc m) xs) → slice_split p xs ≡ take i xs ∷ slice_split p (take (length xs - (i + 1)) (drop (i + 1) xs))
first_part_to p xs m i same more e = rw (take_rest xs (i + 1), ← more, ← same) e

-- the first part ends at the first separator
pub first_part : (p : ℕ → Bool) (xs : List ℕ) (i : ℕ) → position_from p 0 xs ≡ Some i → slice_split p xs ≡ take i xs ∷ slice_split p (take (length xs - (i + 1)) (drop (i + 1) xs))
first_part p xs i e =
    let r = first_from p 0 xs i e in first_part_to p xs r.0 i (omega (arith, r.1)) (omega (arith, r.1)) r.2

-- after a part that is not the last, the lines are those of the other parts
pub more_parts : (line : List ℕ) (parts : List (List ℕ)) → length parts ≢ 0 → lines_of_parts (line ∷ parts) ≡ line ∷ lines_of_parts parts
more_parts line [] e = absurd (e refl)
more_parts line (next ∷ parts) e = refl

pub some_parts : (p : ℕ → Bool) (text : List ℕ) → length (slice_split p text) ≢ 0
some_parts p text e = omega (arith, length-slice_split p text)

one_line : (text line : List ℕ) → (length text == 0) ≡ false → slice_split (λ octet. octet == newline) text ≡ line ∷ [] → lines_of text ≡ line ∷ []
one_line text line filled e =
    let whole : line ≡ text = rw e at (join_with_byte-slice_split newline text) in
    let long : (length line == 0) ≡ false = rw whole filled in
    rw (e, long) refl

-- the first line of a text that is not empty, and those after it
pub first_line : (text line : List ℕ) (rest : Option (List ℕ)) → (length text == 0) ≡ false → slice_split (λ octet. octet == newline) text ≡ line ∷ parts_after newline rest
    → lines_of text ≡ line ∷ lines_of (unwrap_or rest [])
first_line text line None filled e = one_line text line filled e
first_line text line (Some octets) filled e = rw e (more_parts line (slice_split (λ octet. octet == newline) octets) (some_parts (λ octet. octet == newline) octets))

not_only : (front : List ℕ) (parts : List (List ℕ)) → length parts ≢ 0 → only_part (front ∷ parts) ≡ None
not_only front [] e = absurd (e refl)
not_only front (next ∷ parts) e = refl

-- after a separator there is a second part
pub second_part : (separator : ℕ) (octets front rest : List ℕ)
    → slice_split (λ octet. octet == separator) octets ≡ front ∷ slice_split (λ octet. octet == separator) rest
    → only_part (slice_split (λ octet. octet == separator) octets) ≡ None
second_part separator octets front rest first =
    rw first (not_only front (slice_split (λ octet. octet == separator) rest) (some_parts (λ octet. octet == separator) rest))
