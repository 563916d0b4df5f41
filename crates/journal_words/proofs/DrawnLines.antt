-- The words that a side drew by some lines, and by more of them.
use Rattle.std.proofs.Common.{◌≡◌, ℕ, zero, suc, ◌+◌, ◌<◌, List, [], ◌∷◌, ◌++◌, length, refl, sym, ap, ◌∙◌, append-nil, append_assoc, arith}
use Rattle.std.specs.Prelude.{slice_index}
use Rattle.std.proofs.lemmas.List.{length_push}
use Rattle.ble_base.specs.declared.roles.Side.{Side}
use Rattle.journal.specs.declared.entries.Entry.{Entry}
use Rattle.journal_controls.specs.journal_ends.Asked.{Words}
use Rattle.journal_words.specs.Drawn.{counts_from, drawn_counts, drawn_on, next_count, response_after, response_on, words_by_counts, words_in_line}
use Rattle.journal_words.proofs.KeyedAlike.{words_alike}

-- ---- places in a list

at_push : (xs : List ℕ) (y : ℕ) → slice_index (xs ++ y ∷ []) (length xs) ≡ y
at_push [] y = refl
at_push (x ∷ xs) y = at_push xs y

at_front : (xs ys : List ℕ) (place : ℕ) → place < length xs → slice_index (xs ++ ys) place ≡ slice_index xs place
at_front [] ys place less = absurd (omega (arith, less))
at_front (x ∷ xs) ys zero less = refl
at_front (x ∷ xs) ys (suc place) less = at_front xs ys place (omega (arith, less))

-- the sum of these counts of lines, each of which comes after those before it
abbrev pub sum_in : (List Entry → Entry → ℕ) → List Entry → List Entry → ℕ
sum_in count front [] = 0
sum_in count front (line ∷ lines) = count front line + sum_in count (front ++ line ∷ []) lines

-- ---- the counts

-- those of a front stay
record HasRest (counts more : List ℕ) : Type 0 where
  rest : List ℕ
  is : more ≡ counts ++ rest

module _ (list : List ℕ) (side : Side) where
  from_both : (front : List Entry) (counts : List ℕ) (lines more : List Entry)
      → counts_from list side front counts (lines ++ more) ≡ counts_from list side (front ++ lines) (counts_from list side front counts lines) more
  from_both front counts [] more = ap (λ xs. counts_from list side xs counts more) (sym (append-nil front))
  from_both front counts (first ∷ lines) more =
      let next = counts ++ next_count list side counts front first ∷ [] in
      from_both (front ++ first ∷ []) next lines more
      ∙ ap (λ xs. counts_from list side xs (counts_from list side (front ++ first ∷ []) next lines) more) (append_assoc front (first ∷ []) lines)

  from_rest : (front : List Entry) (counts : List ℕ) (lines : List Entry) → HasRest counts (counts_from list side front counts lines)
  from_rest front counts [] = record { rest = []; is = sym (append-nil counts) }
  from_rest front counts (line ∷ lines) =
      let next = next_count list side counts front line in
      let more = from_rest (front ++ line ∷ []) (counts ++ next ∷ []) lines in
      record { rest = next ∷ more.rest; is = more.is ∙ append_assoc counts (next ∷ []) more.rest }

  from_length : (front : List Entry) (counts : List ℕ) (lines : List Entry) → length (counts_from list side front counts lines) ≡ length counts + length lines
  from_length front counts [] = omega arith
  from_length front counts (line ∷ lines) =
      let next = next_count list side counts front line in
      let rest = from_length (front ++ line ∷ []) (counts ++ next ∷ []) lines in
      let one = length_push counts next in
      omega (arith, rest, one)

  pub counts_more : (journal : List Entry) (line : Entry)
      → drawn_counts list side (journal ++ line ∷ []) ≡ drawn_counts list side journal ++ next_count list side (drawn_counts list side journal) journal line ∷ []
  unfolding drawn_counts
  counts_more journal line = from_both [] (0 ∷ []) journal (line ∷ [])

  counts_length : (journal : List Entry) → length (drawn_counts list side journal) ≡ length journal + 1
  unfolding drawn_counts
  counts_length journal = from_length [] (0 ∷ []) journal ∙ omega arith

  -- the count of a front
  counts_front : (journal more : List Entry) → slice_index (drawn_counts list side (journal ++ more)) (length journal) ≡ drawn_on list side journal
  unfolding drawn_counts
  counts_front journal more =
      let counts = counts_from list side [] (0 ∷ []) journal in
      let rest = from_rest journal counts more in
      let long = counts_length journal in
      ap (λ xs. slice_index xs (length journal)) (from_both [] (0 ∷ []) journal more ∙ rest.is)
      ∙ at_front counts rest.rest (length journal) (omega (arith, long))

-- ---- a line more

-- where a side has these words
module _ (list : List ℕ) (side : Side) (words : Words) (has : (front : List Entry) → words side front ≡ response_on list side front) where
  pub drawn_more : (journal : List Entry) (line : Entry)
      → drawn_on list side (journal ++ line ∷ []) ≡ drawn_on list side journal + words_in_line words side journal line
  drawn_more journal line =
      let counts = drawn_counts list side journal in
      let next = next_count list side counts journal line in
      (λ i. slice_index (counts_more list side journal line i) (long i))
      ∙ at_push counts next
      ∙ ap (λ n. slice_index counts (length journal) + n)
      (words_alike (words_by_counts list counts) words side journal line (λ front more is. same front more is ∙ sym (has front)))
    where
      long : length (journal ++ line ∷ []) ≡ length (drawn_counts list side journal)
      long = length_push journal line ∙ sym (counts_length list side journal)

      same : (front more : List Entry) → journal ≡ front ++ more → words_by_counts list (drawn_counts list side journal) side front ≡ response_on list side front
      same front more is =
          ap (response_after list) (ap (λ xs. slice_index (drawn_counts list side xs) (length front)) is ∙ counts_front list side front more)

  -- and some lines more
  pub drawn_grows : (journal lines : List Entry) → drawn_on list side (journal ++ lines) ≡ drawn_on list side journal + sum_in (words_in_line words side) journal lines
  drawn_grows journal [] = ap (drawn_on list side) (append-nil journal) ∙ omega arith
  drawn_grows journal (line ∷ lines) =
      let next = journal ++ line ∷ [] in
      let same = ap (drawn_on list side) (sym (append_assoc journal (line ∷ []) lines)) in
      let rest = drawn_grows next lines in
      let one = drawn_more journal line in
      omega (arith, same, rest, one)

pub drawn_first : (list : List ℕ) (side : Side) → drawn_on list side [] ≡ 0
unfolding drawn_counts
drawn_first list side = refl
