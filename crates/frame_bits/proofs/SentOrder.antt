-- The octets of a CRC: each has its bits the other way round.
use Rattle.std.proofs.Common.{◌≡◌, ℕ, zero, suc, ◌+◌, ◌-◌, ◌*◌, ◌/◌, ◌%◌, ◌^◌, ◌<◌, List, [], ◌∷◌, ◌++◌, length, map, bit_xor, refl, ap, sym, ◌∙◌, arith}
use Rattle.std.specs.Int.{bit_at, reverse_bits, w8}
use Rattle.std.specs.List.{range_with_len}
use Rattle.std.proofs.lemmas.Nat.{mod-pow-add, mod_below, pow_pos}
use Rattle.std.proofs.lemmas.Nat.Bits.{bit_at-lt}
use Rattle.frame_bits.specs.AirBits.{air_bits, lowest_first, octet_bits}
use Rattle.frame_bits.specs.Crc.{crc_octets, polynomial}
use Rattle.frame_bits.proofs.BitLists.{lowest_first-bit}
use Rattle.frame_bits.proofs.Remainders.{xor_apart}
use Rattle.frame_bits.proofs.OctetValues.{reverse_bits-lowest_first}

pub sent_first : (sum : ℕ) → reverse_bits w8 (sum / 2 ^ 16 % 2 ^ 8) ≡ lowest_first (map (λ k. bit_at sum (23 - k)) (range_with_len 0 8))
sent_first sum =
    let e7 : bit_at (sum / 2 ^ 16 % 2 ^ 8) 7 ≡ bit_at sum 23 = omega arith in
    let e6 : bit_at (sum / 2 ^ 16 % 2 ^ 8) 6 ≡ bit_at sum 22 = omega arith in
    let e5 : bit_at (sum / 2 ^ 16 % 2 ^ 8) 5 ≡ bit_at sum 21 = omega arith in
    let e4 : bit_at (sum / 2 ^ 16 % 2 ^ 8) 4 ≡ bit_at sum 20 = omega arith in
    let e3 : bit_at (sum / 2 ^ 16 % 2 ^ 8) 3 ≡ bit_at sum 19 = omega arith in
    let e2 : bit_at (sum / 2 ^ 16 % 2 ^ 8) 2 ≡ bit_at sum 18 = omega arith in
    let e1 : bit_at (sum / 2 ^ 16 % 2 ^ 8) 1 ≡ bit_at sum 17 = omega arith in
    let e0 : bit_at (sum / 2 ^ 16 % 2 ^ 8) 0 ≡ bit_at sum 16 = omega arith in
    reverse_bits-lowest_first (sum / 2 ^ 16 % 2 ^ 8) (omega arith)
    ∙ (λ i. lowest_first (e7 i ∷ e6 i ∷ e5 i ∷ e4 i ∷ e3 i ∷ e2 i ∷ e1 i ∷ e0 i ∷ []))

pub sent_second : (sum : ℕ) → reverse_bits w8 (sum / 2 ^ 8 % 2 ^ 8) ≡ lowest_first (map (λ k. bit_at sum (23 - k)) (range_with_len 8 8))
sent_second sum =
    let e7 : bit_at (sum / 2 ^ 8 % 2 ^ 8) 7 ≡ bit_at sum 15 = omega arith in
    let e6 : bit_at (sum / 2 ^ 8 % 2 ^ 8) 6 ≡ bit_at sum 14 = omega arith in
    let e5 : bit_at (sum / 2 ^ 8 % 2 ^ 8) 5 ≡ bit_at sum 13 = omega arith in
    let e4 : bit_at (sum / 2 ^ 8 % 2 ^ 8) 4 ≡ bit_at sum 12 = omega arith in
    let e3 : bit_at (sum / 2 ^ 8 % 2 ^ 8) 3 ≡ bit_at sum 11 = omega arith in
    let e2 : bit_at (sum / 2 ^ 8 % 2 ^ 8) 2 ≡ bit_at sum 10 = omega arith in
    let e1 : bit_at (sum / 2 ^ 8 % 2 ^ 8) 1 ≡ bit_at sum 9 = omega arith in
    let e0 : bit_at (sum / 2 ^ 8 % 2 ^ 8) 0 ≡ bit_at sum 8 = omega arith in
    reverse_bits-lowest_first (sum / 2 ^ 8 % 2 ^ 8) (omega arith)
    ∙ (λ i. lowest_first (e7 i ∷ e6 i ∷ e5 i ∷ e4 i ∷ e3 i ∷ e2 i ∷ e1 i ∷ e0 i ∷ []))

pub sent_third : (sum : ℕ) → reverse_bits w8 (sum % 2 ^ 8) ≡ lowest_first (map (λ k. bit_at sum (23 - k)) (range_with_len 16 8))
sent_third sum =
    let e7 : bit_at (sum % 2 ^ 8) 7 ≡ bit_at sum 7 = omega arith in
    let e6 : bit_at (sum % 2 ^ 8) 6 ≡ bit_at sum 6 = omega arith in
    let e5 : bit_at (sum % 2 ^ 8) 5 ≡ bit_at sum 5 = omega arith in
    let e4 : bit_at (sum % 2 ^ 8) 4 ≡ bit_at sum 4 = omega arith in
    let e3 : bit_at (sum % 2 ^ 8) 3 ≡ bit_at sum 3 = omega arith in
    let e2 : bit_at (sum % 2 ^ 8) 2 ≡ bit_at sum 2 = omega arith in
    let e1 : bit_at (sum % 2 ^ 8) 1 ≡ bit_at sum 1 = omega arith in
    let e0 : bit_at (sum % 2 ^ 8) 0 ≡ bit_at sum 0 = omega arith in
    reverse_bits-lowest_first (sum % 2 ^ 8) (omega arith)
    ∙ (λ i. lowest_first (e7 i ∷ e6 i ∷ e5 i ∷ e4 i ∷ e3 i ∷ e2 i ∷ e1 i ∷ e0 i ∷ []))

-- ---- the bits on the air

octet_bits-lowest_first : (f : ℕ → ℕ) → ((k : ℕ) → f k < 2) → octet_bits (lowest_first (map f (range_with_len 0 8))) ≡ map f (range_with_len 0 8)
octet_bits-lowest_first f small =
    let b = lowest_first-bit (map f (range_with_len 0 8))
    (small 0, (small 1, (small 2, (small 3, (small 4, (small 5, (small 6, (small 7, tt)))))))) in
    λ i. b 0 i ∷ b 1 i ∷ b 2 i ∷ b 3 i ∷ b 4 i ∷ b 5 i ∷ b 6 i ∷ b 7 i ∷ []

pub air_bits-crc_octets : (sum : ℕ) → air_bits (crc_octets sum) ≡ map (λ k. bit_at sum (23 - k)) (range_with_len 0 24)
unfolding crc_octets
air_bits-crc_octets sum =
    λ i. octet_bits-lowest_first (λ k. bit_at sum (23 - k)) (λ k. bit_at-lt sum (23 - k)) i
    ++ (octet_bits-lowest_first (λ k. bit_at sum (15 - k)) (λ k. bit_at-lt sum (15 - k)) i
    ++ (octet_bits-lowest_first (λ k. bit_at sum (7 - k)) (λ k. bit_at-lt sum (7 - k)) i ++ []))

-- the n lowest bits, from the highest of them down
abbrev pub bits_down : ℕ → ℕ → List ℕ
bits_down zero sum = []
bits_down (suc n) sum = bit_at sum n ∷ bits_down n sum

length-bits_down : (n sum : ℕ) → length (bits_down n sum) ≡ n
length-bits_down zero sum = refl
length-bits_down (suc n) sum = ap suc (length-bits_down n sum)

polynomial-bits_down : (n sum : ℕ) → polynomial (bits_down n sum) ≡ sum % 2 ^ n
polynomial-bits_down zero sum = omega arith
polynomial-bits_down (suc n) sum =
    let one_more : 1 + n ≡ suc n = omega arith in
    (λ i. bit_xor (bit_at sum n * 2 ^ length-bits_down n sum i) (polynomial-bits_down n sum i))
    ∙ xor_apart (bit_at sum n) (sum % 2 ^ n) n (mod_below sum (2 ^ n) (pow_pos n))
    ∙ sym (mod-pow-add sum 1 n) ∙ ap (λ k. sum % 2 ^ k) one_more

pub air_bits-down : (sum : ℕ) → air_bits (crc_octets sum) ≡ bits_down 24 sum
air_bits-down sum = air_bits-crc_octets sum

pub polynomial-air_bits : (sum : ℕ) → sum < 2 ^ 24 → polynomial (air_bits (crc_octets sum)) ≡ sum
polynomial-air_bits sum small =
    ap polynomial (air_bits-down sum) ∙ polynomial-bits_down 24 sum ∙ omega arith
