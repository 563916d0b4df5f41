-- The bits of an octet are those of its remainder modulo 256.
use Rattle.std.proofs.Common.{◌≡◌, ℕ, suc, ◌+◌, ◌*◌, ◌%◌, ◌^◌, ◌<◌, List, [], ◌∷◌, ◌++◌, length, drop, map, refl, ap, sym, ◌∙◌, arith}
use Rattle.std.specs.Int.{bit_at}
use Rattle.std.specs.List.{All, range_with_len}
use Rattle.std.proofs.lemmas.List.{length-append}
use Rattle.std.proofs.lemmas.List.Concat.{flat_map-append}
use Rattle.std.proofs.lemmas.List.Elements.{All-cons, All-nil}
use Rattle.air_frame.specs.Packet.{on_air, with_crc}
use Rattle.air_frame.proofs.Damage.{GoesBitByBit}
use Rattle.frame_bits.specs.AirBits.{air_bits, octet_bits, sums}
use Rattle.frame_bits.specs.Crc.{crc, crc_octets, crc_of_bits}
use Rattle.frame_bits.specs.Whitening.{whitening_bit}

abbrev pub low : ℕ → ℕ
low octet = octet % 2 ^ 8

abbrev pub lows : List ℕ → List ℕ
lows octets = map low octets

octet_low : (n : ℕ) → octet_bits (low n) ≡ octet_bits n
octet_low n =
    let zero_th : bit_at (low n) 0 ≡ bit_at n 0 = omega arith in
    let first : bit_at (low n) 1 ≡ bit_at n 1 = omega arith in
    let second : bit_at (low n) 2 ≡ bit_at n 2 = omega arith in
    let third : bit_at (low n) 3 ≡ bit_at n 3 = omega arith in
    let fourth : bit_at (low n) 4 ≡ bit_at n 4 = omega arith in
    let fifth : bit_at (low n) 5 ≡ bit_at n 5 = omega arith in
    let sixth : bit_at (low n) 6 ≡ bit_at n 6 = omega arith in
    let seventh : bit_at (low n) 7 ≡ bit_at n 7 = omega arith in
    λ i. zero_th i ∷ first i ∷ second i ∷ third i ∷ fourth i ∷ fifth i ∷ sixth i ∷ seventh i ∷ []

air_low : (octets : List ℕ) → air_bits (lows octets) ≡ air_bits octets
air_low [] = refl
air_low (octet ∷ octets) = λ i. octet_low octet i ++ air_low octets i

pub length_low : (octets : List ℕ) → length (lows octets) ≡ length octets
length_low [] = refl
length_low (octet ∷ octets) = ap suc (length_low octets)

pub all_low : (octets : List ℕ) → All (λ octet. octet < 2 ^ 8) (lows octets)
all_low [] = All-nil (λ (octet : ℕ). octet < 2 ^ 8)
all_low (octet ∷ octets) = All-cons (λ (octet : ℕ). octet < 2 ^ 8) (low octet) (lows octets) (omega arith)
    (all_low octets)

crc_low : (init : ℕ) (octets : List ℕ) → crc init (lows octets) ≡ crc init octets
unfolding crc
crc_low init octets = ap (crc_of_bits init) (air_low octets)

with_crc_low : (init : ℕ) (octets : List ℕ) → air_bits (with_crc init (lows octets)) ≡ air_bits (with_crc init octets)
with_crc_low init octets =
    flat_map-append octet_bits (lows octets) (crc_octets (crc init (lows octets)))
    ∙ (λ i. air_low octets i ++ air_bits (crc_octets (crc_low init octets i)))
    ∙ sym (flat_map-append octet_bits octets (crc_octets (crc init octets)))

length_crc_low : (init : ℕ) (octets : List ℕ) → length (with_crc init (lows octets)) ≡ length (with_crc init octets)
length_crc_low init octets =
    length-append (lows octets) (crc_octets (crc init (lows octets)))
    ∙ (λ i. length_low octets i + length (crc_octets (crc_low init octets i)))
    ∙ sym (length-append octets (crc_octets (crc init octets)))

-- so the packets of both have the same bits
pub on_air_low : GoesBitByBit → (channel access init : ℕ) (octets : List ℕ)
    → air_bits (drop 4 (on_air channel access init (lows octets))) ≡ air_bits
    (drop 4 (on_air channel access init octets))
on_air_low bitwise channel access init octets =
    bitwise channel (with_crc init (lows octets))
    ∙ (λ i. sums (with_crc_low init octets i)
    (map (whitening_bit channel) (range_with_len 0 (8 * length_crc_low init octets i))))
    ∙ sym (bitwise channel (with_crc init octets))
