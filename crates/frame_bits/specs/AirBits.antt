-- Octets as bits in the order of the air (Core 5.2, volume 6 part B, section 1.2), and sums of bits over GF(2).
use Rattle.std.specs.Prelude.{◌≡◌, ℕ, zero, suc, ◌+◌, ◌*◌, List, [], ◌∷◌, map, take, drop, bit_xor}
use Rattle.std.specs.Int.{bit_at}
use Rattle.std.specs.List.{flat_map, range_with_len}
use lib.Lanes.{zip2}

-- the bits of an octet, the least significant first (section 1.2)
abbrev pub octet_bits : ℕ → List ℕ
octet_bits octet = map (bit_at octet) (range_with_len 0 8)

-- the bits of octets, in the order of the air (section 1.2)
abbrev pub air_bits : List ℕ → List ℕ
air_bits octets = flat_map octet_bits octets

-- the number with these bits, the first of them the least significant
abbrev pub lowest_first : List ℕ → ℕ
lowest_first [] = 0
lowest_first (bit ∷ bits) = bit + 2 * lowest_first bits

-- the n octets with these bits on the air (section 1.2)
abbrev pub octets_of_bits : ℕ → List ℕ → List ℕ
octets_of_bits zero bits = []
octets_of_bits (suc n) bits = lowest_first (take 8 bits) ∷ octets_of_bits n (drop 8 bits)

-- the sums over GF(2), place by place, of two lists of bits or of octets
abbrev pub sums : List ℕ → List ℕ → List ℕ
sums = zip2 bit_xor

-- all bits that differ are within n consecutive ones, from place start on
pub record DiffersWithin (n start : ℕ) (before after : List ℕ) : Type 0 where
  pub front : take start after ≡ take start before
  pub back : drop (start + n) after ≡ drop (start + n) before
