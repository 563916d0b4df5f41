-- The text of elements that are put in parts.
use Rattle.std.proofs.Common.{◌≡◌, ℕ, List, [], ◌∷◌, ◌++◌, Result, Ok, Err, append_assoc, append-nil, sym, ap, ◌∙◌}
use Rattle.std.specs.Prelude.{OnOk}
use Rattle.std.specs.List.{flat_map}
use Rattle.std.proofs.lemmas.Grind.{flat_map-append}
use Rattle.chart.specs.Svg.{Element, all_spelled, spelled}

pub spelled_parts : (xs ys : List Element) → all_spelled (xs ++ ys) ≡ all_spelled xs ++ all_spelled ys
unfolding all_spelled
spelled_parts xs ys = flat_map-append spelled xs ys

-- what is written after some octets
pub put_none : (octets : List ℕ) → octets ++ all_spelled [] ≡ octets
unfolding all_spelled
put_none octets = append-nil octets

pub put_first : (octets : List ℕ) (x : Element) (xs : List Element)
    → octets ++ all_spelled (x ∷ xs) ≡ (octets ++ spelled x) ++ all_spelled xs
unfolding all_spelled
put_first octets x xs = sym (append_assoc octets (spelled x) (flat_map spelled xs))

pub put_parts : (octets : List ℕ) (xs ys : List Element)
    → octets ++ all_spelled (xs ++ ys) ≡ (octets ++ all_spelled xs) ++ all_spelled ys
put_parts octets xs ys =
    ap (λ more. octets ++ more) (spelled_parts xs ys) ∙ sym (append_assoc octets (all_spelled xs) (all_spelled ys))

-- two parts, and then two elements, of which the last was written by a call that may have failed
pub put_both : (old middle new : List ℕ) (xs ys : List Element) → middle ≡ old ++ all_spelled xs → new ≡ middle ++ all_spelled ys
    → new ≡ old ++ all_spelled (xs ++ ys)
put_both old middle new xs ys front back =
    back ∙ ap (λ octets. octets ++ all_spelled ys) front ∙ sym (put_parts old xs ys)

pub put_both_on : {E : Type 0} (result : Result (Unit {0}) E) (old middle new : List ℕ) (xs ys : List Element)
    → middle ≡ old ++ all_spelled xs → OnOk result (new ≡ middle ++ all_spelled ys) → OnOk result (new ≡ old ++ all_spelled (xs ++ ys))
put_both_on (Ok done) old middle new xs ys front back = put_both old middle new xs ys front back
put_both_on (Err e) old middle new xs ys front back = tt

pub put_pair_on : {E : Type 0} (result : Result (Unit {0}) E) (old middle new : List ℕ) (x y : Element)
    → middle ≡ old ++ spelled x → OnOk result (new ≡ middle ++ spelled y) → OnOk result (new ≡ old ++ all_spelled (x ∷ y ∷ []))
put_pair_on (Ok done) old middle new x y front back =
    back ∙ ap (λ octets. octets ++ spelled y) front
    ∙ sym (put_first old x (y ∷ []) ∙ put_first (old ++ spelled x) y [] ∙ put_none ((old ++ spelled x) ++ spelled y))
put_pair_on (Err e) old middle new x y front back = tt

pub ruleset spelling = (put_none, put_first, put_parts)
