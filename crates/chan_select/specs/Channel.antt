-- The channel of an event, by the algorithm of its link (Core 5.2, volume 6 part B, section 4.5.8).
use Rattle.std.specs.Prelude.{ℕ, ◌≤◌}
use Rattle.chan_select.specs.declared.selection.Algorithm.{Algorithm}
use Rattle.chan_select.specs.declared.selection.Algorithm.TheVariants.{One, Two}
use Rattle.chan_select.specs.Hopping.{channel_one}
use Rattle.chan_select.specs.PseudoRandom.{channel_two}

-- hopIncrement is 5 to 16 (Core 5.2, volume 6 part B, section 2.3.3.1)
abbrev pub HasValidHop : Algorithm → Type 0
HasValidHop (One hop) = (5 ≤ hop) × (hop ≤ 16)
HasValidHop (Two access) = Unit {0}

-- the data channel of a connection event, where `bits` is the channel map (Core 5.2, volume 6 part B, section 4.5.8)
unfoldable pub channel_of : Algorithm → ℕ → ℕ → ℕ
channel_of (One hop) event bits = channel_one hop event bits
channel_of (Two access) event bits = channel_two access event bits
