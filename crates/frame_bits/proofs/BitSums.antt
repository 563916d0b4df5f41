-- Sums of bits, of octets and of polynomials.
use Rattle.std.proofs.Common.{◌≡◌, ℕ, suc, ◌*◌, ◌/◌, ◌%◌, ◌^◌, List, [], ◌∷◌, ◌++◌, length, bit_xor, refl, ap, sym, ◌∙◌, arith}
use Rattle.std.specs.Int.{bit_at}
use Rattle.std.proofs.lemmas.Nat.{xor_mod, xor_shr}
use Rattle.frame_bits.specs.AirBits.{air_bits, octet_bits, sums}
use Rattle.frame_bits.specs.Crc.{crc, crc_of_bits, polynomial, remainder}
use Rattle.frame_bits.proofs.BitLists.{length-air_bits}
use Rattle.frame_bits.proofs.Remainders.{remainder-xor, xor-up, xor_swap}

pub bit_at-xor : (a b k : ℕ) → bit_at (bit_xor a b) k ≡ bit_xor (bit_at a k) (bit_at b k)
bit_at-xor a b k = ap (λ n. n % 2) (xor_shr a b k) ∙ xor_mod (a / 2 ^ k) (b / 2 ^ k) 1

pub octet_bits-xor : (a b : ℕ) → octet_bits (bit_xor a b) ≡ sums (octet_bits a) (octet_bits b)
octet_bits-xor a b =
    λ i. bit_at-xor a b 0 i ∷ bit_at-xor a b 1 i ∷ bit_at-xor a b 2 i ∷ bit_at-xor a b 3 i
    ∷ bit_at-xor a b 4 i ∷ bit_at-xor a b 5 i ∷ bit_at-xor a b 6 i ∷ bit_at-xor a b 7 i ∷ []

pub air_bits-sums : (xs ys : List ℕ) → length xs ≡ length ys → air_bits (sums xs ys) ≡ sums (air_bits xs) (air_bits ys)
air_bits-sums [] ys same = refl
air_bits-sums (x ∷ xs) [] same = absurd (omega arith)
air_bits-sums (x ∷ xs) (y ∷ ys) same =
    λ i. octet_bits-xor x y i ++ air_bits-sums xs ys (omega arith) i

pub length-sums : (xs ys : List ℕ) → length xs ≡ length ys → length (sums xs ys) ≡ length xs
length-sums [] ys same = refl
length-sums (x ∷ xs) [] same = absurd (omega arith)
length-sums (x ∷ xs) (y ∷ ys) same = ap suc (length-sums xs ys (omega arith))

pub polynomial-sums : (xs ys : List ℕ) → length xs ≡ length ys → polynomial (sums xs ys) ≡ bit_xor (polynomial xs) (polynomial ys)
polynomial-sums [] [] same = refl
polynomial-sums [] (y ∷ ys) same = absurd (omega arith)
polynomial-sums (x ∷ xs) [] same = absurd (omega arith)
polynomial-sums (x ∷ xs) (y ∷ ys) same =
    let shorter : length xs ≡ length ys = omega arith in
    (λ i. bit_xor (bit_xor x y * 2 ^ length-sums xs ys shorter i) (polynomial-sums xs ys shorter i))
    ∙ ap (λ n. bit_xor n (bit_xor (polynomial xs) (polynomial ys))) (sym (xor-up x y (length xs)))
    ∙ xor_swap (x * 2 ^ length xs) (y * 2 ^ length xs) (polynomial xs) (polynomial ys)
    ∙ ap (λ n. bit_xor (bit_xor (x * 2 ^ length xs) (polynomial xs)) (bit_xor (y * 2 ^ n) (polynomial ys))) shorter

crc_of_bits-sums : (init other : ℕ) (xs ys : List ℕ) → length xs ≡ length ys
    → crc_of_bits (bit_xor init other) (sums xs ys) ≡ bit_xor (crc_of_bits init xs) (crc_of_bits other ys)
unfolding crc_of_bits
crc_of_bits-sums init other xs ys same =
    let n = length xs in
    let p = polynomial xs * 2 ^ 24 in
    let q = polynomial ys * 2 ^ 24 in
    (λ i. remainder (length-sums xs ys same i) (bit_xor (polynomial-sums xs ys same i * 2 ^ 24) (bit_xor init other * 2 ^ length-sums xs ys same i)))
    ∙ (λ i. remainder n (bit_xor (sym (xor-up (polynomial xs) (polynomial ys) 24) i) (sym (xor-up init other n) i)))
    ∙ ap (remainder n) (xor_swap p q (init * 2 ^ n) (other * 2 ^ n))
    ∙ remainder-xor n (bit_xor p (init * 2 ^ n)) (bit_xor q (other * 2 ^ n))
    ∙ ap (λ m. bit_xor (remainder n (bit_xor p (init * 2 ^ n))) (remainder m (bit_xor q (other * 2 ^ m)))) same

pub crc-sums : (init other : ℕ) (xs ys : List ℕ) → length xs ≡ length ys
    → crc (bit_xor init other) (sums xs ys) ≡ bit_xor (crc init xs) (crc other ys)
unfolding crc
crc-sums init other xs ys same =
    let bits : length (air_bits xs) ≡ length (air_bits ys) = omega (arith, length-air_bits xs, length-air_bits ys) in
    ap (crc_of_bits (bit_xor init other)) (air_bits-sums xs ys same)
    ∙ crc_of_bits-sums init other (air_bits xs) (air_bits ys) bits
