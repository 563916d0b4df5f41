-- The gap between an instant and an event (Core 5.2, volume 6 part B, section 5.5.1).
use Rattle.std.specs.Prelude.{ℕ, ◌+◌, ◌-◌, ◌%◌, ◌^◌}

-- the number of events from the event `now` to the event `instant`, both as 16-bit event counters
abbrev pub gap_of : ℕ → ℕ → ℕ
gap_of instant now = (instant + (2 ^ 16 - now)) % 2 ^ 16
