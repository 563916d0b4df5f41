-- A number in digits is read as itself, and its digits are not separators.
use Rattle.std.proofs.Common.{◌≡◌, ℕ, zero, suc, ◌/◌, ◌%◌, ◌^◌, ◌<◌, true, false, List, [], ◌∷◌, length, Some, refl, ap, arith}
use Rattle.std.specs.Prelude.{◌==◌, ◌&&◌, nat_lt, slice_index, decimal}
use Rattle.std.specs.Char.{is_ascii_digit}
use Rattle.std.specs.Str.{all_ascii_digits}
use Rattle.std.specs.Str.Parse.{digits_value}
use Rattle.std.specs.List.{All}
use Rattle.std.proofs.lemmas.Bool.{agree_below_at, and_from, and_parts, and_right, ne_eqb}
use Rattle.std.proofs.lemmas.Bool.Decides.{nat_tests}
use Rattle.std.proofs.lemmas.Fmt.{decimal_digit, decimal_nonempty, digits_decimal, digits_value-decimal, first_decimal}
use Rattle.std.proofs.lemmas.List.Elements.{All-nil, All-cons}
use Rattle.std.proofs.lemmas.Str.Parse.{IsNumeralModel, numerals_by_value, tells_all_ascii_digits}
use Rattle.hex.specs.Hex.{IsBytes, encode_lower, encode_with, lower_digits}
use Rattle.line_words.proofs.SpelledLines.{is_above}
use Rattle.line_words.specs.Numbers.{number_in}

-- ---- decimal digits

numerals : IsNumeralModel (λ word. all_ascii_digits word ≡ true) (digits_value 10)
numerals = numerals_by_value (λ word. all_ascii_digits word ≡ true) tells_all_ascii_digits

digits-decimal : (n : ℕ) → n < 2 ^ 64 → all_ascii_digits (decimal n) ≡ true
digits-decimal n h = digits_decimal numerals n h

value-decimal : (n : ℕ) → n < 2 ^ 64 → digits_value 10 (decimal n) ≡ n
value-decimal n h = digits_value-decimal numerals n h

pub number_in-decimal : (n : ℕ) → n < 2 ^ 64 → number_in (decimal n) ≡ Some n
number_in-decimal zero h = rw (decimal_digit 0 (omega arith)) refl
number_in-decimal (suc n) h =
    let filled : (length (decimal (suc n)) == 0) ≡ false
    = ne_eqb (length (decimal (suc n))) 0 (λ e. omega (arith, decimal_nonempty (suc n) h)) in
    let first : (slice_index (decimal (suc n)) 0 == 48) ≡ false
    = ne_eqb (slice_index (decimal (suc n)) 0) 48 (λ e. omega (arith, first_decimal (suc n) (omega arith) h)) in
    let leads : (nat_lt 1 (length (decimal (suc n))) && (slice_index (decimal (suc n)) 0 == 48)) ≡ false
    = and_right (nat_lt 1 (length (decimal (suc n)))) (slice_index (decimal (suc n)) 0 == 48) first in
    rw (filled, leads, digits-decimal (suc n) h) (ap Some (value-decimal (suc n) h))

above-digit : (c : ℕ) → is_ascii_digit c ≡ true → nat_lt 32 c ≡ true
above-digit c e = grind (arith, nat_tests)

above-digits : (word : List ℕ) → all_ascii_digits word ≡ true → is_above 32 word ≡ true
above-digits [] e = refl
above-digits (c ∷ word) e =
    let parts = and_parts (is_ascii_digit c) (all_ascii_digits word) e in
    and_from (nat_lt 32 c) (is_above 32 word) (above-digit c parts.0) (above-digits word parts.1)

pub above-decimal : (n : ℕ) → n < 2 ^ 64 → is_above 32 (decimal n) ≡ true
above-decimal n h = above-digits (decimal n) (digits-decimal n h)

other-digit : (c : ℕ) → is_ascii_digit c ≡ true → (c == 58) ≡ false
other-digit c e = grind (arith, nat_tests)

no_colon-digits : (word : List ℕ) → all_ascii_digits word ≡ true → All (λ octet. (octet == 58) ≡ false) word
no_colon-digits [] e = All-nil (λ (octet : ℕ). (octet == 58) ≡ false)
no_colon-digits (c ∷ word) e =
    let parts = and_parts (is_ascii_digit c) (all_ascii_digits word) e in
    All-cons (λ (octet : ℕ). (octet == 58) ≡ false) c word (other-digit c parts.0) (no_colon-digits word parts.1)

pub no_colon-decimal : (n : ℕ) → n < 2 ^ 64 → All (λ octet. (octet == 58) ≡ false) (decimal n)
no_colon-decimal n h = no_colon-digits (decimal n) (digits-decimal n h)

-- ---- hexadecimal digits

other-lower_digits : (d : ℕ) → d < 16 → (slice_index lower_digits d == 58) ≡ false
other-lower_digits d h = agree_below_at (λ k. slice_index lower_digits k == 58) (λ _. false) 16 d refl h

pub no_colon-encode_lower : (octets : List ℕ) → IsBytes octets → All (λ octet. (octet == 58) ≡ false) (encode_lower octets)
unfolding encode_with
no_colon-encode_lower [] h = All-nil (λ (octet : ℕ). (octet == 58) ≡ false)
no_colon-encode_lower (octet ∷ octets) h =
    let byte : octet < 256 = h 0 in
    let low = slice_index lower_digits (octet % 16) in
    All-cons (λ (octet : ℕ). (octet == 58) ≡ false) (slice_index lower_digits (octet / 16)) (low ∷ encode_lower octets) (other-lower_digits (octet / 16) (omega arith))
    (All-cons (λ (octet : ℕ). (octet == 58) ≡ false) low (encode_lower octets) (other-lower_digits (octet % 16) (omega arith)) (no_colon-encode_lower octets (λ i. h (suc i))))

above-lower_digits : (d : ℕ) → d < 16 → nat_lt 32 (slice_index lower_digits d) ≡ true
above-lower_digits d h = agree_below_at (λ k. nat_lt 32 (slice_index lower_digits k)) (λ _. true) 16 d refl h

pub above-encode_lower : (octets : List ℕ) → IsBytes octets → is_above 32 (encode_lower octets) ≡ true
unfolding encode_with
above-encode_lower [] h = refl
above-encode_lower (octet ∷ octets) h =
    let byte : octet < 256 = h 0 in
    and_from (nat_lt 32 (slice_index lower_digits (octet / 16))) (nat_lt 32 (slice_index lower_digits (octet % 16)) && is_above 32 (encode_lower octets))
    (above-lower_digits (octet / 16) (omega arith))
    (and_from (nat_lt 32 (slice_index lower_digits (octet % 16))) (is_above 32 (encode_lower octets)) (above-lower_digits (octet % 16) (omega arith))
    (above-encode_lower octets (λ i. h (suc i))))
