-- A run of two stations: any that is not the one is the other.
use Rattle.std.proofs.Common.{◌≡◌, ℕ, ◌==◌, ◌||◌, Bool, true, false, [], ◌∷◌, refl, sym, ap, ◌∙◌}
use Rattle.std.proofs.lemmas.Bool.{eqb-true, eqb-false, false_from_ne_true}
use Rattle.run_model.specs.Run.{Given}
use Rattle.run_model.proofs.Stations.{is_in}

pub record AreTwo (given : Given) : Type 0 where
  pub only : (one other third : ℕ) → is_in one given.stations ≡ true → is_in other given.stations ≡ true → is_in third given.stations ≡ true
      → (one == other) ≡ false → (one == third) ≡ false → third ≡ other

pub differs_back : (one other : ℕ) → (one == other) ≡ false → (other == one) ≡ false
differs_back one other differs = false_from_ne_true (other == one) (λ same. eqb-false one other differs (sym (eqb-true other one same)))

other_of : (one other station : ℕ) → is_in station (one ∷ other ∷ []) ≡ true → (one == station) ≡ false → station ≡ other
other_of one other station is differs = by (station == one) (station == other) refl refl is
  where
    by : (first second : Bool) → (station == one) ≡ first → (station == other) ≡ second → (first || (second || false)) ≡ true → station ≡ other
    by true second same is_too holds = absurd (eqb-false one station differs (sym (eqb-true station one same)))
    by false true apart same holds = eqb-true station other same
    by false false apart neither holds = absurd cc

one_of : (one other station : ℕ) → is_in station (one ∷ other ∷ []) ≡ true → (other == station) ≡ false → station ≡ one
one_of one other station is differs = by (one == station) refl
  where
    by : (same : Bool) → (one == station) ≡ same → station ≡ one
    by true same = sym (eqb-true one station same)
    by false apart = absurd (eqb-false other station differs (sym (other_of one other station is apart)))

third_of_two : (one other a b c : ℕ) → is_in a (one ∷ other ∷ []) ≡ true → is_in b (one ∷ other ∷ []) ≡ true → is_in c (one ∷ other ∷ []) ≡ true
    → (a == b) ≡ false → (a == c) ≡ false → c ≡ b
third_of_two one other a b c in_a in_b in_c not_b not_c = by (one == a) refl
  where
    by : (first : Bool) → (one == a) ≡ first → c ≡ b
    by true same =
        let is = eqb-true one a same in
        other_of one other c in_c (ap (λ n. n == c) is ∙ not_c) ∙ sym (other_of one other b in_b (ap (λ n. n == b) is ∙ not_b))
    by false apart =
        let is = sym (other_of one other a in_a apart) in
        one_of one other c in_c (ap (λ n. n == c) is ∙ not_c) ∙ sym (one_of one other b in_b (ap (λ n. n == b) is ∙ not_b))

pub are_two : (given : Given) (one other : ℕ) → given.stations ≡ one ∷ other ∷ [] → AreTwo given
are_two given one other stations = record {
  only = λ a b c in_a in_b in_c not_b not_c. third_of_two one other a b c (among_two a in_a) (among_two b in_b) (among_two c in_c) not_b not_c;
}
  where
    among_two : (station : ℕ) → is_in station given.stations ≡ true → is_in station (one ∷ other ∷ []) ≡ true
    among_two station in_it = ap (is_in station) (sym stations) ∙ in_it
