-- The CRC of a PDU (Core 5.2, volume 6 part B, section 3.1.1). A polynomial over GF(2) is written as the number whose
-- bit i is the coefficient of x^i. So addition is `bit_xor`, and x^n times a polynomial is 2^n times its number.
use Rattle.std.specs.Prelude.{ℕ, zero, suc, ◌+◌, ◌-◌, ◌*◌, ◌^◌, List, [], ◌∷◌, length, map, bit_xor}
use Rattle.std.specs.Int.{bit_at}
use Rattle.std.specs.List.{range_with_len}
use Rattle.frame_bits.specs.AirBits.{air_bits, octets_of_bits}

-- the polynomial with these coefficients, the first of them that of the highest power
abbrev pub polynomial : List ℕ → ℕ
polynomial [] = 0
polynomial (bit ∷ bits) = bit_xor (bit * 2 ^ length bits) (polynomial bits)

-- x^24 + x^10 + x^9 + x^6 + x^4 + x^3 + x + 1 (section 3.1.1)
abbrev pub generator : ℕ
generator = 0x100065b

-- the generator times the polynomial with these coefficients
abbrev pub multiple : List ℕ → ℕ
multiple [] = 0
multiple (coefficient ∷ coefficients) =
    bit_xor (coefficient * (generator * 2 ^ length coefficients)) (multiple coefficients)

-- the remainder of a polynomial of a degree below 24 + n in long division by the generator
unfoldable pub remainder : ℕ → ℕ → ℕ
remainder zero p = p
remainder (suc n) p = remainder n (bit_xor p (bit_at p (24 + n) * (generator * 2 ^ n)))

-- the CRC of n bits (section 3.1.1): the remainder of their polynomial times x^24 plus the initial value times x^n
unfoldable pub crc_of_bits : ℕ → List ℕ → ℕ
crc_of_bits init bits = remainder (length bits) (bit_xor (polynomial bits * 2 ^ 24) (init * 2 ^ length bits))

-- the CRC of octets, in the order of the air (section 3.1.1)
unfoldable pub crc : ℕ → List ℕ → ℕ
crc init octets = crc_of_bits init (air_bits octets)

-- a CRC as three octets on the air: position 23 is sent first, position 0 last (sections 1.2 and 3.1.1)
unfoldable pub crc_octets : ℕ → List ℕ
crc_octets sum = octets_of_bits 3 (map (λ k. bit_at sum (23 - k)) (range_with_len 0 24))
