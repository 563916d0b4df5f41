-- Lists of bits, and the polynomials with these coefficients.
use Rattle.std.proofs.Common.{◌≡◌, ℕ, zero, suc, ◌+◌, ◌*◌, ◌/◌, ◌^◌, ◌<◌, ◌≤◌, List, [], ◌∷◌, ◌++◌, length, get_or, bit_xor, refl, ap, sym, subst, ◌∙◌, arith, zero-mul, mul_assoc}
use Rattle.std.specs.Int.{bit_at}
use lib.Bits.{xor_assoc, xor_lt}
use Rattle.std.proofs.Math.Nat.{pow-le-pow_right}
use Rattle.std.proofs.lemmas.List.{length-append}
use Rattle.std.proofs.lemmas.Nat.{pow-add, shl_below}
use Rattle.std.proofs.lemmas.Nat.Bits.{bit_at-lt, bit_at-suc, bit_at-zero, bit_at_lowest}
use Rattle.frame_bits.specs.AirBits.{air_bits, lowest_first, octet_bits}
use Rattle.frame_bits.specs.Crc.{polynomial}
use Rattle.frame_bits.proofs.Remainders.{xor-up}

abbrev pub AreBits : List ℕ → Type 0
AreBits [] = Unit {0}
AreBits (bit ∷ bits) = (bit < 2) × AreBits bits

pub AreBits-append : (xs ys : List ℕ) → AreBits xs → AreBits ys → AreBits (xs ++ ys)
AreBits-append [] ys front back = back
AreBits-append (x ∷ xs) ys front back = (front.0, AreBits-append xs ys front.1 back)

pub AreBits-octet : (n : ℕ) → AreBits (octet_bits n)
AreBits-octet n =
    (bit_at-lt n 0, (bit_at-lt n 1, (bit_at-lt n 2, (bit_at-lt n 3, (bit_at-lt n 4, (bit_at-lt n 5, (bit_at-lt n 6, (bit_at-lt n 7, tt))))))))

pub AreBits-air : (octets : List ℕ) → AreBits (air_bits octets)
AreBits-air [] = tt
AreBits-air (octet ∷ octets) = AreBits-append (octet_bits octet) (air_bits octets) (AreBits-octet octet) (AreBits-air octets)

pub length-air_bits : (octets : List ℕ) → length (air_bits octets) ≡ 8 * length octets
length-air_bits [] = refl
length-air_bits (octet ∷ octets) = let rest = length-air_bits octets in omega (arith, rest)

pub polynomial-append : (xs ys : List ℕ) → polynomial (xs ++ ys) ≡ bit_xor (polynomial xs * 2 ^ length ys) (polynomial ys)
polynomial-append [] ys = simp zero-mul
polynomial-append (x ∷ xs) ys =
    let power : x * 2 ^ length (xs ++ ys) ≡ x * 2 ^ length xs * 2 ^ length ys =
    ap (λ n. x * 2 ^ n) (length-append xs ys) ∙ ap (λ n. x * n) (pow-add 2 (length xs) (length ys))
    ∙ sym (mul_assoc x (2 ^ length xs) (2 ^ length ys)) in
    (λ i. bit_xor (power i) (polynomial-append xs ys i))
    ∙ sym (xor_assoc (x * 2 ^ length xs * 2 ^ length ys) (polynomial xs * 2 ^ length ys) (polynomial ys))
    ∙ ap (λ n. bit_xor n (polynomial ys)) (xor-up (x * 2 ^ length xs) (polynomial xs) (length ys))

pub polynomial-lt : (bits : List ℕ) → AreBits bits → polynomial bits < 2 ^ length bits
polynomial-lt [] are = omega arith
polynomial-lt (bit ∷ bits) are =
    let rest : polynomial bits < 2 ^ length bits = polynomial-lt bits are.1 in
    let one_more : 1 + length bits ≡ suc (length bits) = omega arith in
    let first : bit * 2 ^ length bits < 2 ^ suc (length bits) =
    subst (λ (n : ℕ). bit * 2 ^ length bits < 2 ^ n) one_more (shl_below bit 1 (length bits) are.0) in
    let more : 2 ^ length bits ≤ 2 ^ suc (length bits) = pow-le-pow_right (omega arith) (omega arith) in
    xor_lt (suc (length bits)) (bit * 2 ^ length bits) (polynomial bits) first (omega arith)

-- ---- bits of a number

pub lowest_first-bit : (bits : List ℕ) → AreBits bits → (k : ℕ) → bit_at (lowest_first bits) k ≡ get_or bits k 0
lowest_first-bit [] are k = bit_at-zero k
lowest_first-bit (bit ∷ bits) are zero =
    let below : bit < 2 = are.0 in
    bit_at_lowest (bit + 2 * lowest_first bits) ∙ omega arith
lowest_first-bit (bit ∷ bits) are (suc k) =
    let below : bit < 2 = are.0 in
    let half : (bit + 2 * lowest_first bits) / 2 ≡ lowest_first bits = omega arith in
    bit_at-suc (bit + 2 * lowest_first bits) k ∙ ap (λ n. bit_at n k) half ∙ lowest_first-bit bits are.1 k
