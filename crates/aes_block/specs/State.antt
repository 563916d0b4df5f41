-- The state of FIPS 197, sections 3.4 and 5.1, and the four transformations of a round. The state is
-- written as its 16 octets in the order of the input: column by column, each from row 0 to row 3.
use Rattle.std.specs.Prelude.{ℕ, ◌+◌, ◌-◌, ◌*◌, ◌/◌, ◌%◌, ◌^◌, List, [], ◌∷◌, bit_xor, map, sum_by, slice_index}
use Rattle.std.specs.Int.{bit_at}
use Rattle.std.specs.List.{range_with_len, slice_index_or}
use Rattle.aes_block.specs.Field.{inverse, times}

-- the octet s[r, c] of a state (section 3.4)
abbrev pub octet_at : List ℕ → ℕ → ℕ → ℕ
octet_at s r c = slice_index s (r + 4 * c)

-- the state with octet f r c in row r and column c (section 3.4)
abbrev pub state_of : (ℕ → ℕ → ℕ) → List ℕ
state_of f = map (λ i. f (i % 4) (i / 4)) (range_with_len 0 16)

-- bit i of the affine transformation of b, with the octet {63} as its constant (section 5.1.1)
abbrev pub affine_bit : ℕ → ℕ → ℕ
affine_bit b i =
    (bit_at b i + bit_at b ((i + 4) % 8) + bit_at b ((i + 5) % 8)
    + bit_at b ((i + 6) % 8) + bit_at b ((i + 7) % 8) + bit_at 0x63 i) % 2

-- the affine transformation of b (section 5.1.1)
abbrev pub affine : ℕ → ℕ
affine b = sum_by (λ i. affine_bit b i * 2 ^ i) (range_with_len 0 8)

-- the S-box: the inverse in the field, and then the affine transformation (section 5.1.1)
unfoldable pub sub_byte : ℕ → ℕ
sub_byte b = affine (inverse b)

-- SubBytes (section 5.1.1)
unfoldable pub sub_bytes : List ℕ → List ℕ
sub_bytes s = state_of (λ r c. sub_byte (octet_at s r c))

-- ShiftRows: row r moves left by r columns (section 5.1.2)
unfoldable pub shift_rows : List ℕ → List ℕ
shift_rows s = state_of (λ r c. octet_at s r ((c + r) % 4))

-- coefficient i of the product of two polynomials over the field modulo x^4 + 1, each given by its four
-- coefficients from the lowest on (section 4.3)
abbrev pub coefficient : List ℕ → List ℕ → ℕ → ℕ
coefficient a b i =
    let term = λ (j : ℕ). times (slice_index a ((i + 4 - j) % 4)) (slice_index b j) in
    bit_xor (bit_xor (bit_xor (term 0) (term 1)) (term 2)) (term 3)

-- {03}x^3 + {01}x^2 + {01}x + {02} (section 5.1.3)
abbrev pub mixing : List ℕ
mixing = 0x02 ∷ 0x01 ∷ 0x01 ∷ 0x03 ∷ []

-- the column c of a state
abbrev pub column : List ℕ → ℕ → List ℕ
column s c = map (λ r. octet_at s r c) (range_with_len 0 4)

-- MixColumns (section 5.1.3)
unfoldable pub mix_columns : List ℕ → List ℕ
mix_columns s = state_of (λ r c. coefficient mixing (column s c) r)

-- the sum of two states, octet by octet
unfoldable pub add_states : List ℕ → List ℕ → List ℕ
add_states s t = state_of (λ r c. bit_xor (octet_at s r c) (octet_at t r c))

-- the round key of a round: four words of the expanded key, one for each column (section 5.1.4)
unfoldable pub round_key : List (List ℕ) → ℕ → List ℕ
round_key words round = state_of (λ r c. slice_index (slice_index_or words (4 * round + c) []) r)

-- AddRoundKey (section 5.1.4)
abbrev pub add_round_key : List ℕ → List (List ℕ) → ℕ → List ℕ
add_round_key s words round = add_states s (round_key words round)
