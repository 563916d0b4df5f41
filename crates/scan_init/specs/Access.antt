-- The access addresses of links (Core 5.2, volume 6 part B, section 2.1.2), and the order in which a controller takes
-- them (our choice: the standard leaves that to a random number).
use Rattle.std.specs.Prelude.{◌≡◌, ℕ, zero, suc, ◌+◌, ◌-◌, ◌*◌, ◌/◌, ◌%◌, ◌^◌, ◌<◌, ◌≤◌, ◌==◌, ◌&&◌, not, nat_le, nat_lt, Bool, true, false, bit_xor, Option, Some, None, option_and_then, if◌then◌else◌}
use Rattle.std.specs.List.{list_any, range_with_len}
use Rattle.air_frame.specs.Advertising.{advertising_access}

-- ---- the addresses that a link may have

-- how many of this number of lowest bits are 1
abbrev pub ones_among : ℕ → ℕ → ℕ
ones_among zero bits = 0
ones_among (suc places) bits = bits % 2 + ones_among places (bits / 2)

-- how many of 32 bits are 1
unfoldable pub bit_count : ℕ → ℕ
bit_count bits = ones_among 32 bits

-- the places at which a bit differs from the next one, as the bits of a number: place k for the bits k and k + 1 of 32
abbrev pub transitions_of : ℕ → ℕ
transitions_of access = bit_xor access (access / 2) % 2 ^ 31

-- seven bits in a row are equal: six places in a row have no transition
abbrev pub has_seven_equal_bits : ℕ → Bool
has_seven_equal_bits access = list_any (λ place. transitions_of access / 2 ^ place % 2 ^ 6 == 0) (range_with_len 0 26)

-- how many of its 32 bits are not those of the advertising channels
abbrev pub advertising_distance : ℕ → ℕ
advertising_distance access = bit_count (bit_xor access advertising_access)

-- all four octets are the last one
abbrev pub has_equal_octets : ℕ → Bool
has_equal_octets access = access == 0x01010101 * (access % 2 ^ 8)

-- the six conditions of a data channel access address: it has two transitions or more in its six most significant
-- bits, and at most 24 in all; its octets are not all equal; it is not that of the advertising channels, nor one bit
-- from it; and at most six consecutive bits are equal
unfoldable pub is_valid_access : ℕ → Bool
is_valid_access access =
    nat_le 2 (bit_count (transitions_of access / 2 ^ 26))
    && nat_le (bit_count (transitions_of access)) 24
    && not (has_equal_octets access)
    && nat_lt 1 (advertising_distance access)
    && not (has_seven_equal_bits access)

-- ---- the order in which they are taken

-- the access address at this distance from the cursor
abbrev pub access_at : ℕ → ℕ → ℕ
access_at cursor travel = (cursor + travel) % 2 ^ 32

-- the first valid address at one of the last distances below 2^32, this number of them, and the distance after it
abbrev pub valid_among_last : ℕ → ℕ → Option (ℕ × ℕ)
valid_among_last cursor zero = None
valid_among_last cursor (suc left) =
    elim (is_valid_access (access_at cursor (2 ^ 32 - suc left))) [
      | true ↦ Some (access_at cursor (2 ^ 32 - suc left), 2 ^ 32 - left)
      | false ↦ valid_among_last cursor left
    ]

-- the first valid address at this distance or a greater one below 2^32, and the distance after it
unfoldable pub next_access_of : ℕ → ℕ → Option (ℕ × ℕ)
next_access_of cursor travelled = valid_among_last cursor (2 ^ 32 - travelled)

-- the same in words: it is the address of the distance before that after it, it is valid, and none between is
pub record IsNextAccess (cursor travelled access after : ℕ) : Type 0 where
  pub further : travelled < after
  pub within : after ≤ 2 ^ 32
  pub address : access ≡ access_at cursor (after - 1)
  pub valid : is_valid_access access ≡ true
  pub first : (travel : ℕ) → travelled ≤ travel → travel + 1 < after
      → is_valid_access (access_at cursor travel) ≡ false

-- no address from this distance on is valid
abbrev pub HasNoAccess : ℕ → ℕ → Type 0
HasNoAccess cursor travelled =
    (travel : ℕ) → travelled ≤ travel → travel < 2 ^ 32 → is_valid_access (access_at cursor travel) ≡ false

-- ---- one after another

-- the address with this number, from 0 on, that a controller takes, where each search begins at the distance after the
-- address before it, and the distance after this one
abbrev pub nth_access : ℕ → ℕ → Option (ℕ × ℕ)
nth_access cursor zero = next_access_of cursor 0
nth_access cursor (suc number) = option_and_then (λ found. next_access_of cursor found.1) (nth_access cursor number)

-- how many addresses at distances below this one are valid
unfoldable pub valid_count : ℕ → ℕ → ℕ
valid_count cursor zero = 0
valid_count cursor (suc travel) =
    valid_count cursor travel + (if is_valid_access (access_at cursor travel) then 1 else 0)

-- the valid address with this number, from 0 on: this number of addresses before it are valid
pub record IsNthAccess (cursor number access after : ℕ) : Type 0 where
  pub positive : 0 < after
  pub within : after ≤ 2 ^ 32
  pub address : access ≡ access_at cursor (after - 1)
  pub valid : is_valid_access access ≡ true
  pub number_before : valid_count cursor (after - 1) ≡ number
