-- The field GF(2^8) of FIPS 197, section 4. An octet is the polynomial over GF(2) whose coefficients are
-- its bits, that of x^i in bit i. Addition (section 4.1) is `bit_xor`.
use Rattle.std.specs.Prelude.{ℕ, zero, suc, ◌+◌, ◌*◌, ◌^◌, ◌==◌, bit_xor, find, unwrap_or}
use Rattle.std.specs.Int.{bit_at}
use Rattle.std.specs.List.{range_with_len}

-- the product of a and the part of b below x^n: the sum of a times x^i for each x^i of b with i < n (section 4.2)
abbrev pub polynomial_product : ℕ → ℕ → ℕ → ℕ
polynomial_product a b zero = 0
polynomial_product a b (suc n) = bit_xor (polynomial_product a b n) (bit_at b n * (a * 2 ^ n))

-- x^8 + x^4 + x^3 + x + 1, the modulus of the field (section 4.2)
abbrev pub modulus : ℕ
modulus = 0x11b

-- the remainder of a polynomial of a degree below 8 + n in long division by the modulus (section 4.2)
abbrev pub remainder : ℕ → ℕ → ℕ
remainder zero p = p
remainder (suc n) p = remainder n (bit_xor p (bit_at p (8 + n) * (modulus * 2 ^ n)))

-- multiplication in the field (section 4.2)
unfoldable pub times : ℕ → ℕ → ℕ
times a b = remainder 7 (polynomial_product a b 8)

-- the powers of an element (section 4.2)
abbrev pub power : ℕ → ℕ → ℕ
power a zero = 1
power a (suc n) = times a (power a n)

-- the octet whose product with a is 1, and 0 for a = 0, which has none (sections 4.2 and 5.1.1)
abbrev pub inverse : ℕ → ℕ
inverse a = unwrap_or (find (λ b. times a b == 1) (range_with_len 0 256)) 0
