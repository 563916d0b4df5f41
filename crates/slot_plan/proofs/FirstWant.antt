-- Of some wants one comes first.
use Rattle.std.proofs.Common.{◌≡◌, ℕ, suc, nat_lt, nat_eq, Bool, true, false, ◌||◌, ◌&&◌, List, [], ◌∷◌, get_or}
use Rattle.std.proofs.Common.{◌↔◌, Option, Some, None, IsNone, IfSome, if◌then◌else◌, refl, ap, arith, rules}
use Rattle.std.specs.Option.{option_map}
use Rattle.std.proofs.lemmas.List.Elements.{All-nil, All-cons}
use Rattle.slot_plan.specs.declared.activities.Activity.{Activity}
use Rattle.slot_plan.specs.declared.wants.Want.{Want}
use Rattle.slot_plan.specs.Winner.{class_of, first_activity, first_of, is_before, IsFirst, IsWinner}

-- less by a number, or equal in it and less by what comes next
abbrev is_less : ℕ → ℕ → Bool → Bool
is_less a b next = nat_lt a b || (nat_eq a b && next)

-- a is not less than b, and c is: so a is not less than c
not_less_than_less : (a b c : ℕ) (ab cb ac : Bool) → (ab ≡ false → cb ≡ true → ac ≡ false)
    → is_less a b ab ≡ false → is_less c b cb ≡ true → is_less a c ac ≡ false
not_less_than_less a b c ab cb ac next h k = grind arith

not_before_itself : (a : Want) → is_before a a ≡ false
not_before_itself a = grind arith

-- what is not before b is not before what is before b
not_before_earlier : (a b c : Want) → is_before a b ≡ false → is_before c b ≡ true → is_before a c ≡ false
not_before_earlier a b c h k =
    not_less_than_less (class_of a.activity) (class_of b.activity) (class_of c.activity) _ _ _
    (not_less_than_less a.last_served.0 b.last_served.0 c.last_served.0 _ _ _ (λ x y. grind arith))
    h k

-- the first of one want more, by whether that comes before the first of the others
with_one_more : (test : Bool) (want first : Want) (wants : List Want)
    → is_before want first ≡ test → IsFirst wants first → IsFirst (want ∷ wants) (if test then want else first)
with_one_more true want first wants e g = record {
  wants_it = (0, omega arith, refl);
  none_before =
      All-cons (λ other. is_before other want ≡ false) want wants (not_before_itself want)
      (λ k d h. not_before_earlier (get_or wants k d) first want (g.none_before k d h) e);
}
with_one_more false want first wants e g = record {
  wants_it = (suc g.wants_it.0, omega (arith, g.wants_it.1), g.wants_it.2);
  none_before = All-cons (λ other. is_before other first ≡ false) want wants e g.none_before;
}

first_is_first : (want : Want) (wants : List Want) → IsFirst (want ∷ wants) (first_of want wants)
first_is_first want [] = record {
  wants_it = (0, omega arith, refl);
  none_before = All-cons (λ other. is_before other want ≡ false) want [] (not_before_itself want) (All-nil _);
}
first_is_first want (next ∷ wants) =
    with_one_more (is_before want (first_of next wants)) want (first_of next wants) (next ∷ wants) refl
    (first_is_first next wants)

pub winner_of_wants : (want : Want) (wants : List Want) → (a : Activity) × IsWinner (want ∷ wants) a
winner_of_wants want wants = ((first_of want wants).activity, (first_of want wants, first_is_first want wants, refl))

-- no two activities win
one_wins : (wants : List Want) (a b : Activity) → IsWinner wants a → IsWinner wants b → a ≡ b
one_wins wants a b one other = search rules

-- one that is found to be the first, if there is one, is the one that is computed
pub found_is_first : (wants : List Want) (found : Option Want) → (IsNone found ↔ (wants ≡ [])) → IfSome found (IsFirst wants)
    → option_map (λ want. want.activity) found ≡ first_activity wants
found_is_first [] None none some = refl
found_is_first (want ∷ wants) None none some = absurd (let h = none.0 refl in cc)
found_is_first [] (Some found) none some = absurd (let h = none.1 refl in cc)
found_is_first (want ∷ wants) (Some found) none some =
    ap Some
    (one_wins (want ∷ wants) found.activity (first_of want wants).activity (found, some, refl) (first_of want wants, first_is_first want wants, refl))
