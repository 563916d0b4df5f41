-- What is the same at each octet, by all 256 of them.
use Rattle.std.proofs.Common.{◌≡◌, ℕ, ◌-◌, ◌*◌, ◌/◌, ◌%◌, ◌^◌, ◌<◌, map, get_or, bit_or, bit_xor, refl, ap, sym, ◌∙◌, arith}
use Rattle.std.specs.Int.{bit_at, reverse_bits, reverse_bits_onto, w8}
use Rattle.std.specs.List.{range_with_len}
use Rattle.std.proofs.lemmas.List.FromFn.{get_or-map-range_with_len}
use Rattle.frame_bits.specs.AirBits.{octet_bits, lowest_first}
use Rattle.frame_bits.specs.Crc.{polynomial, remainder}
use Rattle.frame_bits.specs.Whitening.{next_mask, whitening_bit, mask_of}
use Rattle.frame_bits.specs.declared.crc.TheConstants.{REMAINDERS}

-- two functions with the same first n values
same_at : (f g : ℕ → ℕ) (n : ℕ) → map f (range_with_len 0 n) ≡ map g (range_with_len 0 n) → (k : ℕ) → k < n → f k ≡ g k
same_at f g n e k lt =
    sym (get_or-map-range_with_len f 0 n k k 0 lt (omega arith)) ∙ ap (λ t. get_or t k 0) e
    ∙ get_or-map-range_with_len g 0 n k k 0 lt (omega arith)

table_is : REMAINDERS ≡ map (λ top. remainder 8 (top * 2 ^ 24)) (range_with_len 0 256)
unfolding remainder
table_is = refl

pub table_at : (top : ℕ) → top < 256 → get_or REMAINDERS top 0 ≡ remainder 8 (top * 2 ^ 24)
table_at top lt =
    ap (λ t. get_or t top 0) table_is
    ∙ get_or-map-range_with_len (λ k. remainder 8 (k * 2 ^ 24)) 0 256 top top 0 lt (omega arith)

-- the polynomial of an octet has its bits the other way round
pub reverse_bits-polynomial : (octet : ℕ) → octet < 256 → reverse_bits w8 octet ≡ polynomial (octet_bits octet)
unfolding reverse_bits_onto
reverse_bits-polynomial = same_at (reverse_bits w8) (λ k. polynomial (octet_bits k)) 256 refl

-- the bits of an octet, the most significant first
pub reverse_bits-lowest_first : (octet : ℕ) → octet < 256
    → reverse_bits w8 octet ≡ lowest_first (map (λ k. bit_at octet (7 - k)) (range_with_len 0 8))
unfolding reverse_bits_onto
reverse_bits-lowest_first =
    same_at (reverse_bits w8) (λ octet. lowest_first (map (λ k. bit_at octet (7 - k)) (range_with_len 0 8))) 256 refl

pub lowest_first-octet_bits : (octet : ℕ) → octet < 256 → lowest_first (octet_bits octet) ≡ octet
lowest_first-octet_bits = same_at (λ k. lowest_first (octet_bits k)) (λ k. k) 256 refl

-- the next mask, as shifts make it
abbrev pub entering : ℕ → ℕ
entering mask = bit_xor (mask / 2) (mask / 32)

abbrev pub fed_back : ℕ → ℕ
fed_back mask = bit_xor (bit_xor (entering mask) (entering mask * 8 % 256)) (entering mask * 64 % 256)

pub next_mask_is : (mask : ℕ) → mask < 256 → bit_xor (fed_back mask) (fed_back mask * 128 % 256) ≡ next_mask mask
unfolding next_mask
next_mask_is = same_at (λ mask. bit_xor (fed_back mask) (fed_back mask * 128 % 256)) next_mask 256 refl

pub first_mask_is : (channel : ℕ) → channel < 40
    → next_mask (bit_xor (bit_or 64 channel) (bit_or 64 channel / 16) * 2 % 256) ≡ mask_of channel 0
unfolding next_mask mask_of whitening_bit
first_mask_is =
    same_at (λ channel. next_mask (bit_xor (bit_or 64 channel) (bit_or 64 channel / 16) * 2 % 256))
    (λ channel. mask_of channel 0) 40 refl
