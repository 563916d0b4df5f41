-- Damage that is seen through the whitening.
use Rattle.std.proofs.Common.{◌≡◌, ℕ, zero, suc, ◌+◌, ◌*◌, ◌^◌, ◌<◌, List, [], ◌∷◌, length, take, drop, map, bit_xor, refl, ap, sym, ◌∙◌, arith}
use Rattle.std.specs.List.{All, range_with_len}
use lib.Bits.{xor_assoc, xor_self, xor_zero_r}
use Rattle.std.proofs.lemmas.List.FromFn.{length-map-range_with_len}
use Rattle.frame_bits.specs.AirBits.{air_bits, sums, DiffersWithin}
use Rattle.frame_bits.specs.Whitening.{whitening_of, whitening_bit}
use Rattle.air_frame.specs.Packet.{on_air, with_crc}
use Rattle.air_frame.proofs.Bodies.{length-with_crc}

take-sums : (n : ℕ) (xs ys : List ℕ) → take n (sums xs ys) ≡ sums (take n xs) (take n ys)
take-sums zero xs ys = refl
take-sums (suc n) [] ys = refl
take-sums (suc n) (x ∷ xs) [] = refl
take-sums (suc n) (x ∷ xs) (y ∷ ys) = ap (λ rest. bit_xor x y ∷ rest) (take-sums n xs ys)

drop-sums : (n : ℕ) (xs ys : List ℕ) → length xs ≡ length ys → drop n (sums xs ys) ≡ sums (drop n xs) (drop n ys)
drop-sums zero xs ys same = refl
drop-sums (suc n) [] ys same = refl
drop-sums (suc n) (x ∷ xs) [] same = absurd (omega arith)
drop-sums (suc n) (x ∷ xs) (y ∷ ys) same = drop-sums n xs ys (omega arith)

-- what is added twice is gone
sums_twice : (xs ys : List ℕ) → length xs ≡ length ys → sums (sums xs ys) ys ≡ xs
sums_twice [] ys same = refl
sums_twice (x ∷ xs) [] same = absurd (omega arith)
sums_twice (x ∷ xs) (y ∷ ys) same =
    λ i. (xor_assoc x y y ∙ ap (bit_xor x) (xor_self y) ∙ xor_zero_r x) i ∷ sums_twice xs ys (omega arith) i

length-sums : (xs ys : List ℕ) → length xs ≡ length ys → length (sums xs ys) ≡ length xs
length-sums [] ys same = refl
length-sums (x ∷ xs) [] same = absurd (omega arith)
length-sums (x ∷ xs) (y ∷ ys) same = ap suc (length-sums xs ys (omega arith))

-- two lists of bits differ where their sums with a third do
same_places : (n start : ℕ) (xs ys white : List ℕ) → length xs ≡ length white → length ys ≡ length white
    → DiffersWithin n start (sums xs white) (sums ys white) → DiffersWithin n start xs ys
same_places n start xs ys white one other change =
    let plain_front : (zs : List ℕ) → length zs ≡ length white → take start zs ≡ sums (take start (sums zs white)) (take start white) =
    λ zs same. ap (take start) (sym (sums_twice zs white same)) ∙ take-sums start (sums zs white) white in
    let plain_back : (zs : List ℕ) → length zs ≡ length white → drop (start + n) zs ≡ sums (drop (start + n) (sums zs white)) (drop (start + n) white) =
    λ zs same. ap (drop (start + n)) (sym (sums_twice zs white same)) ∙ drop-sums (start + n) (sums zs white) white (length-sums zs white same ∙ same) in
    record {
      front = plain_front ys other ∙ ap (λ bits. sums bits (take start white)) change.front ∙ sym (plain_front xs one);
      back = plain_back ys other ∙ ap (λ bits. sums bits (drop (start + n) white)) change.back ∙ sym (plain_back xs one);
    }

length-air_bits : (octets : List ℕ) → length (air_bits octets) ≡ 8 * length octets
length-air_bits [] = refl
length-air_bits (octet ∷ octets) = let rest = length-air_bits octets in omega (arith, rest)

moved : (n start : ℕ) (xs ys others changed : List ℕ) → xs ≡ others → ys ≡ changed → DiffersWithin n start xs ys → DiffersWithin n start others changed
moved n start xs ys others changed first second change = record {
  front = ap (take start) (sym second) ∙ change.front ∙ ap (take start) first;
  back = ap (drop (start + n)) (sym second) ∙ change.back ∙ ap (drop (start + n)) first;
}

-- the laws of bits that are needed here
abbrev pub IsSeen : Type 0
IsSeen = (init start : ℕ) (sent heard : List ℕ) → init < 2 ^ 24 → length heard ≡ length sent
    → All (λ octet. octet < 2 ^ 8) sent → All (λ octet. octet < 2 ^ 8) heard
    → DiffersWithin 24 start (air_bits (with_crc init sent)) (air_bits (with_crc init heard)) → heard ≡ sent

abbrev pub GoesBitByBit : Type 0
GoesBitByBit = (channel : ℕ) (octets : List ℕ)
    → air_bits (whitening_of channel octets) ≡ sums (air_bits octets) (map (whitening_bit channel) (range_with_len 0 (8 * length octets)))

abbrev pub KeepsLength : Type 0
KeepsLength = (channel : ℕ) (octets : List ℕ) → length (whitening_of channel octets) ≡ length octets

pub short_damage : IsSeen → GoesBitByBit → KeepsLength → (channel access init start : ℕ) (sent octets heard : List ℕ) → init < 2 ^ 24
    → All (λ octet. octet < 2 ^ 8) sent → All (λ octet. octet < 2 ^ 8) heard
    → length octets ≡ length (on_air channel access init sent)
    → DiffersWithin 24 start (air_bits (drop 4 (on_air channel access init sent))) (air_bits (drop 4 octets))
    → octets ≡ on_air channel access init heard → octets ≡ on_air channel access init sent
short_damage seen bitwise keeps channel access init start sent octets heard small all also len change is =
    let first = with_crc init sent in
    let second = with_crc init heard in
    let white = λ (n : ℕ). map (whitening_bit channel) (range_with_len 0 (8 * n)) in
    let long : length second ≡ length first = omega (arith, ap length is, len, keeps channel first, keeps channel second) in
    let short : length heard ≡ length sent = omega (arith, long, length-with_crc init sent, length-with_crc init heard) in
    let masked : DiffersWithin 24 start (sums (air_bits first) (white (length first))) (sums (air_bits second) (white (length first))) =
    moved 24 start _ _ _ _ (bitwise channel first)
    (ap (λ xs. air_bits (drop 4 xs)) is ∙ bitwise channel second ∙ ap (λ n. sums (air_bits second) (white n)) long) change in
    let size : length (white (length first)) ≡ 8 * length first = length-map-range_with_len (whitening_bit channel) 0 (8 * length first) in
    let plain = same_places 24 start (air_bits first) (air_bits second) (white (length first))
    (length-air_bits first ∙ sym size) (length-air_bits second ∙ ap (λ n. 8 * n) long ∙ sym size) masked in
    is ∙ ap (on_air channel access init) (seen init start sent heard small short all also plain)
