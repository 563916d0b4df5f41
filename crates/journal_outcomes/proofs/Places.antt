-- The line of a journal of which an element is, in a list with at most one element of each line.
use Rattle.std.proofs.Common.{◌≡◌, List, [], ◌∷◌, ◌++◌, refl, sym, ap, ◌∙◌}
use Rattle.std.specs.List.{flat_map}
use Rattle.journal.specs.declared.entries.Entry.{Entry}

pub data AtMostOne (X : Type 0) (xs : List X) : Type 0 where
  NoneIn : xs ≡ [] → AtMostOne X xs
  OneIn : (one : X) → xs ≡ one ∷ [] → AtMostOne X xs

pub record IsPlace (X : Type 0) (in_line : Entry → List X) (entries : List Entry) (earlier : List X) (one : X) : Type 0 where
  pub before : List Entry
  pub line : Entry
  pub after : List Entry
  pub is : entries ≡ before ++ line ∷ after
  pub line_is : in_line line ≡ one ∷ []
  pub earlier_are : flat_map in_line before ≡ earlier

no_place : (X : Type 0) (earlier later : List X) (one : X) (Y : Type 0) → [] ≡ earlier ++ one ∷ later → Y
no_place X [] later one Y is = absurd cc
no_place X (first ∷ earlier) later one Y is = absurd cc

module _ (X : Type 0) (in_line : Entry → List X) (few : (line : Entry) → AtMostOne X (in_line line)) where
  later_place : (line : Entry) (entries : List Entry) (first earlier : List X) (one : X) → in_line line ≡ first
      → IsPlace X in_line entries earlier one → IsPlace X in_line (line ∷ entries) (first ++ earlier) one
  later_place line entries first earlier one first_is place = record {
    before = line ∷ place.before;
    line = place.line;
    after = place.after;
    is = λ i. line ∷ place.is i;
    line_is = place.line_is;
    earlier_are = λ i. first_is i ++ place.earlier_are i;
  }

  pub place_of : (entries : List Entry) (earlier later : List X) (one : X) → flat_map in_line entries ≡ earlier ++ one ∷ later
      → IsPlace X in_line entries earlier one
  place_of [] earlier later one is = no_place X earlier later one _ is
  place_of (line ∷ entries) earlier later one is = by (few line) (λ front all. place_of entries front later one all) earlier is
    where
      by_first : (first : X) → in_line line ≡ first ∷ [] → ((front : List X) → flat_map in_line entries ≡ front ++ one ∷ later → IsPlace X in_line entries front one)
          → (front : List X) → first ∷ flat_map in_line entries ≡ front ++ one ∷ later → IsPlace X in_line (line ∷ entries) front one
      by_first first first_is others [] all =
          let same : first ≡ one = cc in record {
            before = [];
            line = line;
            after = entries;
            is = refl;
            line_is = first_is ∙ (λ i. same i ∷ []);
            earlier_are = refl;
          }
      by_first first first_is others (head ∷ front) all =
          let same : first ≡ head = cc in
          let rest : flat_map in_line entries ≡ front ++ one ∷ later = cc in
          later_place line entries (head ∷ []) front one (first_is ∙ (λ i. same i ∷ [])) (others front rest)

      by : AtMostOne X (in_line line) → ((front : List X) → flat_map in_line entries ≡ front ++ one ∷ later → IsPlace X in_line entries front one)
          → (front : List X) → in_line line ++ flat_map in_line entries ≡ front ++ one ∷ later → IsPlace X in_line (line ∷ entries) front one
      by (NoneIn none) others front all =
          later_place line entries [] front one none (others front (sym (ap (λ xs. xs ++ flat_map in_line entries) none) ∙ all))
      by (OneIn first first_is) others front all =
          by_first first first_is others front (sym (ap (λ xs. xs ++ flat_map in_line entries) first_is) ∙ all)
