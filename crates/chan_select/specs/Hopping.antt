-- Channel selection algorithm #1 (Core 5.2, volume 6 part B, section 4.5.8.2).
use Rattle.std.specs.Prelude.{ℕ, ◌+◌, ◌*◌, ◌%◌, length, slice_index, if◌then◌else◌}
use Rattle.ble_base.specs.ChannelMap.{is_used, used_channels}

-- unmappedChannel of an event: it is 0 at first, and the hop is added before each event, event 0 too
abbrev pub unmapped_channel : ℕ → ℕ → ℕ
unmapped_channel hop event = hop * (event + 1) % 37

-- the channel of an event: its unmapped channel where that is used, else the used channel with index unmappedChannel
-- mod N, where N is the number of used channels
abbrev pub channel_one : ℕ → ℕ → ℕ → ℕ
channel_one hop event bits =
    (let unmapped = unmapped_channel hop event in
    let used = used_channels bits in
    if is_used bits unmapped then unmapped else slice_index used (unmapped % length used))
