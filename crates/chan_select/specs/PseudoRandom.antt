-- Channel selection algorithm #2 (Core 5.2, volume 6 part B, section 4.5.8.3).
use Rattle.std.specs.Prelude.{ℕ, ◌+◌, ◌*◌, ◌/◌, ◌%◌, ◌^◌, length, slice_index, bit_xor, if◌then◌else◌}
use Rattle.std.specs.Int.{bit_at}
use Rattle.ble_base.specs.ChannelMap.{is_used, used_channels}

-- channelIdentifier: the upper half of the access address XOR the lower half
abbrev pub channel_identifier : ℕ → ℕ
channel_identifier access = bit_xor (access / 2 ^ 16) (access % 2 ^ 16)

-- an octet with its bits in reverse order: bit k in place 7 - k
unfoldable pub reversed_octet : ℕ → ℕ
reversed_octet n =
    128 * bit_at n 0 + 64 * bit_at n 1 + 32 * bit_at n 2 + 16 * bit_at n 3
    + 8 * bit_at n 4 + 4 * bit_at n 5 + 2 * bit_at n 6 + bit_at n 7

-- PERM: each of the two octets with its bits in reverse order
unfoldable pub perm : ℕ → ℕ
perm n = 2 ^ 8 * reversed_octet (n / 2 ^ 8) + reversed_octet (n % 2 ^ 8)

-- MAM: multiply, add, modulo
unfoldable pub mam : ℕ → ℕ → ℕ
mam n identifier = (17 * n + identifier) % 2 ^ 16

-- one of the three stages: PERM, then MAM
unfoldable pub stage : ℕ → ℕ → ℕ
stage n identifier = mam (perm n) identifier

-- prn_e, of the identifier and the 16-bit counter of the event
unfoldable pub prn : ℕ → ℕ → ℕ
prn identifier counter =
    bit_xor (stage (stage (stage (bit_xor counter identifier) identifier) identifier) identifier) identifier

-- the channel for a prn_e: prn_e mod 37 where that is used, else the used channel with index N * prn_e / 2^16, where N
-- is the number of used channels
abbrev pub mapped_channel : ℕ → ℕ → ℕ
mapped_channel e bits =
    (let used = used_channels bits in
    if is_used bits (e % 37) then e % 37 else slice_index used (length used * e / 2 ^ 16))

-- the channel of an event, of which the algorithm reads the lowest 16 bits
abbrev pub channel_two : ℕ → ℕ → ℕ → ℕ
channel_two access event bits = mapped_channel (prn (channel_identifier access) (event % 2 ^ 16)) bits
