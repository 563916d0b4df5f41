-- Whitening, bit by bit, of sums and twice.
use Rattle.std.proofs.Common.{◌≡◌, ℕ, zero, suc, ◌+◌, ◌*◌, List, [], ◌∷◌, ◌++◌, length, map, bit_xor, refl, ap, sym, ◌∙◌, arith, add-zero, zero-add, suc-add}
use Rattle.std.specs.List.{range_with_len}
use lib.Bits.{xor_assoc, xor_comm}
use Rattle.std.proofs.lemmas.List.{map-append}
use Rattle.frame_bits.specs.AirBits.{air_bits, octet_bits, sums}
use Rattle.frame_bits.specs.Whitening.{whitening_of, whitening_from, whitening_bit, mask_of}
use Rattle.frame_bits.proofs.BitSums.{octet_bits-xor}
use Rattle.frame_bits.proofs.Remainders.{xor_twice}
use Rattle.frame_bits.proofs.Sequences.{length-whitening_from, mask_of-bit}

twice_from : (channel i : ℕ) (octets : List ℕ) → whitening_from channel i (whitening_from channel i octets) ≡ octets
twice_from channel i [] = refl
twice_from channel i (octet ∷ octets) =
    λ j. xor_twice octet (mask_of channel i) j ∷ twice_from channel (i + 1) octets j

pub whitening_of-whitening_of : (channel : ℕ) (octets : List ℕ) → whitening_of channel (whitening_of channel octets) ≡ octets
unfolding whitening_of
whitening_of-whitening_of channel octets = twice_from channel 0 octets

pub length-whitening_of : (channel : ℕ) (octets : List ℕ) → length (whitening_of channel octets) ≡ length octets
unfolding whitening_of
length-whitening_of channel octets = length-whitening_from channel 0 octets

change_from : (channel i : ℕ) (octets change : List ℕ)
    → whitening_from channel i (sums octets change) ≡ sums (whitening_from channel i octets) change
change_from channel i [] change = refl
change_from channel i (octet ∷ octets) [] = refl
change_from channel i (octet ∷ octets) (changed ∷ change) =
    let mask = mask_of channel i in
    let first = xor_assoc octet changed mask ∙ ap (bit_xor octet) (xor_comm changed mask) ∙ sym (xor_assoc octet mask changed) in
    λ j. first j ∷ change_from channel (i + 1) octets change j

pub whitening_of-sums : (channel : ℕ) (octets change : List ℕ) → whitening_of channel (sums octets change) ≡ sums (whitening_of channel octets) change
unfolding whitening_of
whitening_of-sums channel octets change = change_from channel 0 octets change

range_with_len-add : (n a b : ℕ) → range_with_len n (a + b) ≡ range_with_len n a ++ range_with_len (n + a) b
range_with_len-add n zero b = λ j. range_with_len (sym (add-zero n) j) (zero-add b j)
range_with_len-add n (suc a) b =
    let place : n + 1 + a ≡ n + suc a = omega arith in
    ap (range_with_len n) (suc-add a b) ∙ ap (λ xs. n ∷ xs) (range_with_len-add (n + 1) a b)
    ∙ ap (λ k. n ∷ range_with_len (n + 1) a ++ range_with_len k b) place

-- the bits of the sequence from place n on, as many as the octets have
abbrev bits_from : ℕ → ℕ → List ℕ → List ℕ
bits_from channel n octets = map (whitening_bit channel) (range_with_len n (8 * length octets))

bits_from-cons : (channel n octet : ℕ) (octets : List ℕ)
    → map (λ k. whitening_bit channel (n + k)) (range_with_len 0 8) ++ bits_from channel (n + 8) octets ≡ bits_from channel n (octet ∷ octets)
bits_from-cons channel n octet octets =
    let w = whitening_bit channel in
    let m = 8 * length octets in
    let one : n + 0 ≡ n = omega arith in
    let three : n + 2 ≡ n + 1 + 1 = omega arith in
    let four : n + 3 ≡ n + 1 + 1 + 1 = omega arith in
    let five : n + 4 ≡ n + 1 + 1 + 1 + 1 = omega arith in
    let six : n + 5 ≡ n + 1 + 1 + 1 + 1 + 1 = omega arith in
    let seven : n + 6 ≡ n + 1 + 1 + 1 + 1 + 1 + 1 = omega arith in
    let eight : n + 7 ≡ n + 1 + 1 + 1 + 1 + 1 + 1 + 1 = omega arith in
    let whole : 8 + m ≡ 8 * suc (length octets) = omega arith in
    (λ j. w (one j) ∷ w (n + 1) ∷ w (three j) ∷ w (four j) ∷ w (five j) ∷ w (six j) ∷ w (seven j) ∷ w (eight j) ∷ map w (range_with_len (n + 8) m))
    ∙ sym (map-append w (range_with_len n 8) (range_with_len (n + 8) m))
    ∙ ap (map w) (sym (range_with_len-add n 8 m) ∙ ap (range_with_len n) whole)

octet_at : (channel i : ℕ) → octet_bits (mask_of channel i) ≡ map (λ k. whitening_bit channel (8 * i + k)) (range_with_len 0 8)
octet_at channel i =
    let b = mask_of-bit channel i in
    λ j. b 0 (omega arith) j ∷ b 1 (omega arith) j ∷ b 2 (omega arith) j ∷ b 3 (omega arith) j
    ∷ b 4 (omega arith) j ∷ b 5 (omega arith) j ∷ b 6 (omega arith) j ∷ b 7 (omega arith) j ∷ []

bits_of : (channel i : ℕ) (octets : List ℕ)
    → air_bits (whitening_from channel i octets) ≡ sums (air_bits octets) (bits_from channel (8 * i) octets)
bits_of channel i [] = refl
bits_of channel i (octet ∷ octets) =
    let place : 8 * (i + 1) ≡ 8 * i + 8 = omega arith in
    (λ j. (octet_bits-xor octet (mask_of channel i) ∙ ap (sums (octet_bits octet)) (octet_at channel i)) j
    ++ (bits_of channel (i + 1) octets ∙ ap (λ n. sums (air_bits octets) (bits_from channel n octets)) place) j)
    ∙ ap (sums (air_bits (octet ∷ octets))) (bits_from-cons channel (8 * i) octet octets)

pub air_bits-whitening_of : (channel : ℕ) (octets : List ℕ)
    → air_bits (whitening_of channel octets) ≡ sums (air_bits octets) (map (whitening_bit channel) (range_with_len 0 (8 * length octets)))
unfolding whitening_of
air_bits-whitening_of channel octets = bits_of channel 0 octets
