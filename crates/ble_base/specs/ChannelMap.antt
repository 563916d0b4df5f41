-- Channel maps: which data channels a link uses (Core 5.2, volume 6 part B, section 4.5.8.1).
use Rattle.std.specs.Prelude.{ℕ, ◌^◌, ◌<◌, ◌≤◌, Bool, List, length, filter}
use Rattle.std.specs.List.{range_with_len}
use Rattle.ble_base.specs.Bits.{has_bit}

-- the data channels: 0 to 36, in ascending order (Core 5.2, volume 6 part B, section 1.4.1)
unfoldable pub data_channels : List ℕ
data_channels = range_with_len 0 37

-- whether a map uses a channel: its bit is 1 (Core 5.2, volume 6 part B, section 4.5.8.1)
abbrev pub is_used : ℕ → ℕ → Bool
is_used bits channel = has_bit bits channel

-- the data channels that a map uses, in ascending order (Core 5.2, volume 6 part B, section 4.5.8.1)
unfoldable pub used_channels : ℕ → List ℕ
used_channels bits = filter (is_used bits) data_channels

-- whether a number is a channel map: it has bits of data channels only, and at least two (Core 5.2, volume 6 part B,
-- section 4.5.8.1)
pub record IsMap (bits : ℕ) : Type 0 where
  pub data_channels_only : bits < 2 ^ 37
  pub two_or_more : 2 ≤ length (used_channels bits)
