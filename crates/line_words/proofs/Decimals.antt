-- Decimal digits, one after another.
use Rattle.std.proofs.Common.{◌≡◌, ℕ, ◌+◌, ◌-◌, ◌*◌, ◌<◌, ◌≤◌, Bool, true, false, List, [], ◌∷◌, length, drop, get_or, Some, None, refl, arith}
use Rattle.std.specs.Prelude.{if◌then◌else◌}
use Rattle.std.specs.Char.{is_ascii_digit, digit_value}
use Rattle.std.specs.Str.{all_ascii_digits}
use Rattle.std.specs.Str.Parse.{digits_value_after}
use Rattle.std.proofs.lemmas.List.{drop_more}
use Rattle.std.proofs.lemmas.Bool.Decides.{nat_tests}
use Rattle.line_words.specs.Numbers.{number_from, in_range}

digit_is : (c : ℕ) → is_ascii_digit c ≡ true → digit_value c ≡ c - 48
digit_is c e = grind (arith, nat_tests)

-- one digit more
pub next_digit : (least most number : ℕ) (word : List ℕ) (i : ℕ) → i < length word → is_ascii_digit (get_or word i 0) ≡ true
    → in_range least most (number_from number (drop i word)) ≡ in_range least most (number_from (number * 10 + (get_or word i 0 - 48)) (drop (i + 1) word))
next_digit least most number word i h e = rw (drop_more word i 0 h, e, ← digit_is (get_or word i 0) e) refl

-- another octet
pub no_digit : (least most number : ℕ) (word : List ℕ) (i : ℕ) → i < length word → is_ascii_digit (get_or word i 0) ≡ false
    → in_range least most (number_from number (drop i word)) ≡ None
no_digit least most number word i h e = rw (drop_more word i 0 h, e) refl

too_large : (b : Bool) (least most number : ℕ) → most < number → in_range least most (if b then Some number else None) ≡ None
too_large true least most number h = grind (arith, nat_tests)
too_large false least most number h = refl

more_digits : (number : ℕ) (digits : List ℕ) → number ≤ digits_value_after 10 number digits
more_digits number [] = omega arith
more_digits number (digit ∷ digits) = omega (arith, more_digits (number * 10 + digit_value digit) digits)

-- digits only make a number larger
pub past_most : (least most number : ℕ) (digits : List ℕ) → most < number → in_range least most (number_from number digits) ≡ None
past_most least most number digits h =
    too_large (all_ascii_digits digits) least most (digits_value_after 10 number digits) (omega (arith, more_digits number digits))
