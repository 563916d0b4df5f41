-- When a scanner or an initiator listens (Core 5.2, volume 6 part B, sections 4.4.3 and 4.4.4).
use Rattle.std.specs.Prelude.{ℕ, ◌+◌, ◌-◌, ◌/◌, ◌%◌, nat_lt, Option, Some, None, if◌then◌else◌}

-- units of 0.625 ms in slots of 1.25 ms, rounded up (our choice)
abbrev pub slots_of : ℕ → ℕ
slots_of units = (units + 1) / 2

-- the channel in a slot, of an interval and a window in units of 0.625 ms and the slot in which scanning began: in the
-- window, which is at the beginning of each interval, one of three channels, which change with the interval (their
-- order is our choice)
abbrev pub scan_channel : ℕ → ℕ → ℕ → ℕ → Option ℕ
scan_channel interval window since slot =
    if nat_lt ((slot - since) % slots_of interval) (slots_of window)
    then Some (37 + (slot - since) / slots_of interval % 3) else None
