-- The CRC, octet by octet.
use Rattle.std.proofs.Common.{◌≡◌, ℕ, ◌+◌, ◌*◌, ◌/◌, ◌%◌, ◌^◌, ◌<◌, List, [], ◌∷◌, ◌++◌, length, bit_xor, ap, sym, subst, ◌∙◌, arith, mul-one, mul_assoc}
use lib.Bits.{xor_assoc, xor_comm, xor_lt}
use Rattle.std.proofs.lemmas.List.{length-append}
use Rattle.std.proofs.lemmas.List.Concat.{flat_map-append}
use Rattle.std.proofs.lemmas.Nat.{pow-add, shl_below}
use Rattle.frame_bits.specs.AirBits.{air_bits, octet_bits}
use Rattle.frame_bits.specs.Crc.{crc, crc_of_bits, polynomial, remainder}
use Rattle.frame_bits.proofs.BitLists.{AreBits, AreBits-air, polynomial-append, polynomial-lt}
use Rattle.frame_bits.proofs.Remainders.{xor-up, xor_apart, remainder-xor, remainder-longer, remainder-small, remainder-lt, remainder-up}

-- what is divided, where further bits follow
divided : (v w init n m : ℕ)
    → bit_xor (bit_xor (v * 2 ^ m) w * 2 ^ 24) (init * 2 ^ (n + m))
    ≡ bit_xor (bit_xor (v * 2 ^ 24) (init * 2 ^ n) * 2 ^ m) (w * 2 ^ 24)
divided v w init n m =
    let left : v * 2 ^ m * 2 ^ 24 ≡ v * 2 ^ 24 * 2 ^ m = omega arith in
    let right : init * 2 ^ (n + m) ≡ init * 2 ^ n * 2 ^ m = ap (λ k. init * k) (pow-add 2 n m) ∙ sym (mul_assoc init (2 ^ n) (2 ^ m)) in
    (λ i. bit_xor (sym (xor-up (v * 2 ^ m) w 24) i) (right i))
    ∙ xor_assoc (v * 2 ^ m * 2 ^ 24) (w * 2 ^ 24) (init * 2 ^ n * 2 ^ m)
    ∙ (λ i. bit_xor (left i) (xor_comm (w * 2 ^ 24) (init * 2 ^ n * 2 ^ m) i))
    ∙ sym (xor_assoc (v * 2 ^ 24 * 2 ^ m) (init * 2 ^ n * 2 ^ m) (w * 2 ^ 24))
    ∙ ap (λ k. bit_xor k (w * 2 ^ 24)) (xor-up (v * 2 ^ 24) (init * 2 ^ n) m)

divided_on : (x w n m : ℕ) → w < 2 ^ m
    → remainder (n + m) (bit_xor (x * 2 ^ m) (w * 2 ^ 24)) ≡ remainder m (bit_xor (w * 2 ^ 24) (remainder n x * 2 ^ m))
divided_on x w n m small =
    let high : w * 2 ^ 24 < 2 ^ (24 + m) =
    subst (λ (k : ℕ). w * 2 ^ 24 < 2 ^ k) (omega arith) (shl_below w m 24 small) in
    remainder-xor (n + m) (x * 2 ^ m) (w * 2 ^ 24)
    ∙ (λ i. bit_xor (remainder-up n m x i) (remainder-longer n m (w * 2 ^ 24) high i))
    ∙ sym (remainder-xor m (remainder n x * 2 ^ m) (w * 2 ^ 24))
    ∙ ap (remainder m) (xor_comm (remainder n x * 2 ^ m) (w * 2 ^ 24))

pub crc_of_bits-append : (init : ℕ) (xs ys : List ℕ) → AreBits ys → crc_of_bits init (xs ++ ys) ≡ crc_of_bits (crc_of_bits init xs) ys
unfolding crc_of_bits
crc_of_bits-append init xs ys are =
    let n = length xs in
    let m = length ys in
    (λ i. remainder (length-append xs ys i) (bit_xor (polynomial-append xs ys i * 2 ^ 24) (init * 2 ^ length-append xs ys i)))
    ∙ ap (remainder (n + m)) (divided (polynomial xs) (polynomial ys) init n m)
    ∙ divided_on (bit_xor (polynomial xs * 2 ^ 24) (init * 2 ^ n)) (polynomial ys) n m (polynomial-lt ys are)

pub crc-append : (init : ℕ) (xs ys : List ℕ) → crc init (xs ++ ys) ≡ crc (crc init xs) ys
unfolding crc
crc-append init xs ys =
    ap (crc_of_bits init) (flat_map-append octet_bits xs ys)
    ∙ crc_of_bits-append init (air_bits xs) (air_bits ys) (AreBits-air ys)

pub crc-nil : (init : ℕ) → crc init [] ≡ init
unfolding crc crc_of_bits remainder
crc-nil init = mul-one init

pub crc-lt : (init : ℕ) (octets : List ℕ) → init < 2 ^ 24 → crc init octets < 2 ^ 24
unfolding crc crc_of_bits
crc-lt init octets small =
    let bits = air_bits octets in
    let n = length bits in
    let front : polynomial bits * 2 ^ 24 < 2 ^ (24 + n) =
    subst (λ (k : ℕ). polynomial bits * 2 ^ 24 < 2 ^ k) (omega arith) (shl_below (polynomial bits) n 24 (polynomial-lt bits (AreBits-air octets))) in
    remainder-lt n _ (xor_lt (24 + n) (polynomial bits * 2 ^ 24) (init * 2 ^ n) front (shl_below init 24 n small))

-- one octet more: the eight highest positions leave, and the others move up
pub crc-octet : (register octet : ℕ) → register < 2 ^ 24
    → crc register (octet ∷ []) ≡ bit_xor (register % 2 ^ 16 * 2 ^ 8) (remainder 8 (bit_xor (register / 2 ^ 16) (polynomial (octet_bits octet)) * 2 ^ 24))
unfolding crc crc_of_bits
crc-octet register octet small =
    let v = polynomial (octet_bits octet) in
    let high = register / 2 ^ 16 in
    let low = register % 2 ^ 16 * 2 ^ 8 in
    let below : low < 2 ^ 24 = omega arith in
    let parts : register * 2 ^ 8 ≡ bit_xor (high * 2 ^ 24) low =
    let sum : register * 2 ^ 8 ≡ high * 2 ^ 24 + low = omega arith in
    sum ∙ sym (xor_apart high low 24 below) in
    ap (λ k. remainder 8 (bit_xor (v * 2 ^ 24) k)) (parts ∙ xor_comm (high * 2 ^ 24) low)
    ∙ ap (remainder 8) (xor_comm (v * 2 ^ 24) (bit_xor low (high * 2 ^ 24)) ∙ xor_assoc low (high * 2 ^ 24) (v * 2 ^ 24))
    ∙ remainder-xor 8 low (bit_xor (high * 2 ^ 24) (v * 2 ^ 24))
    ∙ (λ i. bit_xor (remainder-small 8 low below i) (remainder 8 (xor-up high v 24 i)))
