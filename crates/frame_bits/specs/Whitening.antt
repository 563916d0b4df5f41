-- Data whitening by x^7 + x^4 + 1 (Core 5.2, volume 6 part B, section 3.2).
use Rattle.std.specs.Prelude.{ℕ, zero, suc, ◌+◌, ◌-◌, ◌*◌, List, [], ◌∷◌, map, bit_xor}
use Rattle.std.specs.Int.{bit_at}
use Rattle.std.specs.List.{range_with_len}
use Rattle.frame_bits.specs.AirBits.{lowest_first}

-- what position k of the register holds at the start (section 3.2): 1 in position 0, and the channel index in positions
-- 1 to 6, its most significant bit in position 1
abbrev pub start_position : ℕ → ℕ → ℕ
start_position channel zero = 1
start_position channel (suc k) = bit_at channel (5 - k)

-- bit t of the sequence (section 3.2): positions 6, 5 and 4 at the start; then positions 3 to 0, each added to the bit
-- three places before; from then on the sum of the bits seven and three places before
unfoldable pub whitening_bit : ℕ → ℕ → ℕ
whitening_bit channel zero = start_position channel 6
whitening_bit channel (suc zero) = start_position channel 5
whitening_bit channel (suc (suc zero)) = start_position channel 4
whitening_bit channel (suc (suc (suc zero))) = bit_xor (start_position channel 3) (whitening_bit channel zero)
whitening_bit channel (suc (suc (suc (suc zero)))) =
    bit_xor (start_position channel 2) (whitening_bit channel (suc zero))
whitening_bit channel (suc (suc (suc (suc (suc zero))))) =
    bit_xor (start_position channel 1) (whitening_bit channel (suc (suc zero)))
whitening_bit channel (suc (suc (suc (suc (suc (suc zero)))))) =
    bit_xor (start_position channel 0) (whitening_bit channel (suc (suc (suc zero))))
whitening_bit channel (suc (suc (suc (suc (suc (suc (suc t))))))) =
    bit_xor (whitening_bit channel t) (whitening_bit channel (suc (suc (suc (suc t)))))

-- the mask of octet i: the eight bits of the sequence that are added to it, as an octet
unfoldable pub mask_of : ℕ → ℕ → ℕ
mask_of channel i = lowest_first (map (λ k. whitening_bit channel (8 * i + k)) (range_with_len 0 8))

-- octets with their masks added, the first of them octet i of the packet
abbrev pub whitening_from : ℕ → ℕ → List ℕ → List ℕ
whitening_from channel i [] = []
whitening_from channel i (octet ∷ octets) = bit_xor octet (mask_of channel i) ∷ whitening_from channel (i + 1) octets

-- octets with the sequence of this channel index added, from its first bit on (section 3.2)
unfoldable pub whitening_of : ℕ → List ℕ → List ℕ
whitening_of channel octets = whitening_from channel 0 octets

-- the mask after this one: each of its bits is the sum of the bits seven and three places before (section 3.2)
unfoldable pub next_mask : ℕ → ℕ
next_mask mask =
    let b = bit_at mask in
    let first = bit_xor (b 1) (b 5) in
    let second = bit_xor (b 2) (b 6) in
    let third = bit_xor (b 3) (b 7) in
    let fourth = bit_xor (b 4) first in
    let fifth = bit_xor (b 5) second in
    let sixth = bit_xor (b 6) third in
    let seventh = bit_xor (b 7) fourth in
    let eighth = bit_xor first fifth in
    lowest_first (first ∷ second ∷ third ∷ fourth ∷ fifth ∷ sixth ∷ seventh ∷ eighth ∷ [])
