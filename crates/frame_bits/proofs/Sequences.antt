-- The whitening sequence, octet by octet.
use Rattle.std.proofs.Common.{◌≡◌, ℕ, zero, suc, ◌+◌, ◌*◌, ◌^◌, ◌<◌, ◌≤◌, List, [], ◌∷◌, ◌++◌, length, get_or, take, drop, set, map, bit_xor, refl, ap, sym, ◌∙◌, arith, add-zero}
use Rattle.std.specs.Int.{bit_at}
use Rattle.std.specs.List.{range_with_len}
use lib.Bits.{xor_lt}
use Rattle.std.proofs.lemmas.List.{append-nil, append_assoc, drop_all, drop_more, get_or_at, length-take-le, set_at, take_all, take_more}
use Rattle.std.proofs.lemmas.List.FromFn.{get_or-map-range_with_len}
use Rattle.std.proofs.lemmas.Nat.Bits.{bit_at-lt}
use Rattle.frame_bits.specs.AirBits.{lowest_first}
use Rattle.frame_bits.specs.Whitening.{next_mask, start_position, whitening_of, whitening_from, whitening_bit, mask_of}
use Rattle.frame_bits.proofs.BitLists.{AreBits, lowest_first-bit}

start_position-lt : (channel k : ℕ) → start_position channel k < 2 ^ 1
start_position-lt channel zero = omega arith
start_position-lt channel (suc k) = bit_at-lt channel _

pub whitening_bit-lt : (channel t : ℕ) → whitening_bit channel t < 2 ^ 1
unfolding whitening_bit
whitening_bit-lt channel zero = start_position-lt channel 6
whitening_bit-lt channel (suc zero) = start_position-lt channel 5
whitening_bit-lt channel (suc (suc zero)) = start_position-lt channel 4
whitening_bit-lt channel (suc (suc (suc zero))) =
    xor_lt 1 (start_position channel 3) (whitening_bit channel 0) (start_position-lt channel 3) (start_position-lt channel 6)
whitening_bit-lt channel (suc (suc (suc (suc zero)))) =
    xor_lt 1 (start_position channel 2) (whitening_bit channel 1) (start_position-lt channel 2) (start_position-lt channel 5)
whitening_bit-lt channel (suc (suc (suc (suc (suc zero))))) =
    xor_lt 1 (start_position channel 1) (whitening_bit channel 2) (start_position-lt channel 1) (start_position-lt channel 4)
whitening_bit-lt channel (suc (suc (suc (suc (suc (suc zero)))))) =
    xor_lt 1 (start_position channel 0) (whitening_bit channel 3) (start_position-lt channel 0) (whitening_bit-lt channel (suc (suc (suc zero))))
whitening_bit-lt channel (suc (suc (suc (suc (suc (suc (suc t))))))) =
    xor_lt 1 (whitening_bit channel t) (whitening_bit channel (suc (suc (suc (suc t)))))
    (whitening_bit-lt channel t) (whitening_bit-lt channel (suc (suc (suc (suc t)))))

recurrence : (channel t : ℕ) → whitening_bit channel (suc (suc (suc (suc (suc (suc (suc t)))))))
    ≡ bit_xor (whitening_bit channel t) (whitening_bit channel (suc (suc (suc (suc t)))))
unfolding whitening_bit
recurrence channel t = refl

-- the sum of the bits of seven and of three before, counted from place n
pub whitening_bit-next : (channel n k : ℕ)
    → whitening_bit channel (n + (7 + k)) ≡ bit_xor (whitening_bit channel (n + k)) (whitening_bit channel (n + (4 + k)))
whitening_bit-next channel n k =
    ap (whitening_bit channel) (omega arith) ∙ recurrence channel (n + k)
    ∙ ap (λ t. bit_xor (whitening_bit channel (n + k)) (whitening_bit channel t)) (omega arith)

next_mask-bits : (b : ℕ → ℕ) (octet : ℕ) → ((k : ℕ) → k < 8 → bit_at octet k ≡ b k)
    → ((k : ℕ) → b (7 + k) ≡ bit_xor (b k) (b (4 + k)))
    → next_mask octet ≡ lowest_first (map (λ k. b (8 + k)) (range_with_len 0 8))
unfolding next_mask
next_mask-bits b octet are next =
    let one = are 1 (omega arith) in
    let two = are 2 (omega arith) in
    let three = are 3 (omega arith) in
    let four = are 4 (omega arith) in
    let five = are 5 (omega arith) in
    let six = are 6 (omega arith) in
    let seven = are 7 (omega arith) in
    let eight : bit_xor (bit_at octet 1) (bit_at octet 5) ≡ b 8 = (λ i. bit_xor (one i) (five i)) ∙ sym (next 1) in
    let nine : bit_xor (bit_at octet 2) (bit_at octet 6) ≡ b 9 = (λ i. bit_xor (two i) (six i)) ∙ sym (next 2) in
    let ten : bit_xor (bit_at octet 3) (bit_at octet 7) ≡ b 10 = (λ i. bit_xor (three i) (seven i)) ∙ sym (next 3) in
    let eleven : bit_xor (bit_at octet 4) (bit_xor (bit_at octet 1) (bit_at octet 5)) ≡ b 11 =
    (λ i. bit_xor (four i) (eight i)) ∙ sym (next 4) in
    let twelve : bit_xor (bit_at octet 5) (bit_xor (bit_at octet 2) (bit_at octet 6)) ≡ b 12 =
    (λ i. bit_xor (five i) (nine i)) ∙ sym (next 5) in
    let thirteen : bit_xor (bit_at octet 6) (bit_xor (bit_at octet 3) (bit_at octet 7)) ≡ b 13 =
    (λ i. bit_xor (six i) (ten i)) ∙ sym (next 6) in
    let fourteen : bit_xor (bit_at octet 7) (bit_xor (bit_at octet 4) (bit_xor (bit_at octet 1) (bit_at octet 5))) ≡ b 14 =
    (λ i. bit_xor (seven i) (eleven i)) ∙ sym (next 7) in
    let fifteen : bit_xor (bit_xor (bit_at octet 1) (bit_at octet 5)) (bit_xor (bit_at octet 5) (bit_xor (bit_at octet 2) (bit_at octet 6))) ≡ b 15 =
    (λ i. bit_xor (eight i) (twelve i)) ∙ sym (next 8) in
    λ i. lowest_first (eight i ∷ nine i ∷ ten i ∷ eleven i ∷ twelve i ∷ thirteen i ∷ fourteen i ∷ fifteen i ∷ [])

-- bit k of octet i is bit 8 * i + k
pub mask_of-bit : (channel i k : ℕ) → k < 8 → bit_at (mask_of channel i) k ≡ whitening_bit channel (8 * i + k)
unfolding mask_of
mask_of-bit channel i k lt =
    let b = λ (j : ℕ). whitening_bit channel (8 * i + j) in
    let small = λ (j : ℕ). whitening_bit-lt channel (8 * i + j) in
    let all : AreBits (map b (range_with_len 0 8)) =
    (small 0, (small 1, (small 2, (small 3, (small 4, (small 5, (small 6, (small 7, tt)))))))) in
    lowest_first-bit (map b (range_with_len 0 8)) all k ∙ get_or-map-range_with_len b 0 8 k k 0 lt (omega arith)

pub mask_of-next : (channel i : ℕ) → next_mask (mask_of channel i) ≡ mask_of channel (i + 1)
unfolding mask_of
mask_of-next channel i =
    let place : (k : ℕ) → 8 * i + (8 + k) ≡ 8 * (i + 1) + k = λ k. omega arith in
    next_mask-bits (λ k. whitening_bit channel (8 * i + k)) (mask_of channel i) (mask_of-bit channel i)
    (whitening_bit-next channel (8 * i))
    ∙ octet_at (λ k. 8 * i + (8 + k)) (λ k. 8 * (i + 1) + k) place
  where
    octet_at : (f g : ℕ → ℕ) → ((k : ℕ) → f k ≡ g k)
        → lowest_first (map (λ k. whitening_bit channel (f k)) (range_with_len 0 8)) ≡ lowest_first (map (λ k. whitening_bit channel (g k)) (range_with_len 0 8))
    octet_at f g same = λ j. lowest_first (map (λ k. whitening_bit channel (same k j)) (range_with_len 0 8))

pub length-whitening_from : (channel i : ℕ) (octets : List ℕ) → length (whitening_from channel i octets) ≡ length octets
length-whitening_from channel i [] = refl
length-whitening_from channel i (octet ∷ octets) = ap suc (length-whitening_from channel (i + 1) octets)

pub whitening_from-push : (channel i : ℕ) (octets : List ℕ) (octet : ℕ)
    → whitening_from channel i (octets ++ octet ∷ []) ≡ whitening_from channel i octets ++ bit_xor octet (mask_of channel (i + length octets)) ∷ []
whitening_from-push channel i [] octet = ap (λ n. bit_xor octet (mask_of channel n) ∷ []) (sym (add-zero i))
whitening_from-push channel i (first ∷ octets) octet =
    let place : i + 1 + length octets ≡ i + suc (length octets) = omega arith in
    ap (λ rest. bit_xor first (mask_of channel i) ∷ rest)
    (whitening_from-push channel (i + 1) octets octet
    ∙ ap (λ n. whitening_from channel (i + 1) octets ++ bit_xor octet (mask_of channel n) ∷ []) place)

-- octets of which the first n are whitened
abbrev pub whitening_to : ℕ → ℕ → List ℕ → List ℕ
whitening_to channel n octets = whitening_of channel (take n octets) ++ drop n octets

pub whitening_to-none : (channel : ℕ) (octets : List ℕ) → octets ≡ whitening_to channel 0 octets
unfolding whitening_of
whitening_to-none channel octets = refl

pub whitening_to-all : (channel n : ℕ) (octets : List ℕ) → length octets ≤ n → whitening_to channel n octets ≡ whitening_of channel octets
whitening_to-all channel n octets le =
    (λ i. whitening_of channel (take_all n octets le i) ++ drop_all n octets le i) ∙ append-nil (whitening_of channel octets)

-- one octet more, the one at n
pub whitening_to-next : (channel n mask : ℕ) (now octets : List ℕ) → n < length octets
    → now ≡ whitening_to channel n octets → mask ≡ mask_of channel n
    → set now n (bit_xor (get_or now n 0) mask) ≡ whitening_to channel (n + 1) octets
unfolding whitening_of
whitening_to-next channel n mask now octets lt so_far is =
    let octet = get_or octets n 0 in
    let front = whitening_from channel 0 (take n octets) in
    let rest = drop (n + 1) octets in
    let len : length front ≡ n = length-whitening_from channel 0 (take n octets) ∙ length-take-le n octets (omega arith) in
    let place : n ≡ 0 + length (take n octets) = omega (arith, length-take-le n octets (omega arith)) in
    let before : now ≡ front ++ octet ∷ rest = so_far ∙ ap (λ xs. front ++ xs) (drop_more octets n 0 lt) in
    let read : get_or now n 0 ≡ octet = ap (λ xs. get_or xs n 0) before ∙ get_or_at front octet rest 0 n len in
    let written : bit_xor (get_or now n 0) mask ≡ bit_xor octet (mask_of channel (0 + length (take n octets))) =
    λ i. bit_xor (read i) ((is ∙ ap (mask_of channel) place) i) in
    (λ i. set (before i) n (written i))
    ∙ set_at front octet rest (bit_xor octet (mask_of channel (0 + length (take n octets)))) n len
    ∙ sym (append_assoc front (bit_xor octet (mask_of channel (0 + length (take n octets))) ∷ []) rest)
    ∙ ap (λ all. all ++ rest)
    (sym (whitening_from-push channel 0 (take n octets) octet) ∙ ap (whitening_from channel 0) (sym (take_more octets n 0 lt)))
