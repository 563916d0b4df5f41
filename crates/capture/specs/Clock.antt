-- The time of each packet of a capture (our choice): a turn is a slot of 1250 microseconds, in which the host packets
-- before the first packet on the air are at its start, and packet n on the air is 125 n microseconds after it.
use Rattle.std.specs.Prelude.{ℕ, ◌+◌, ◌-◌, ◌*◌, ◌^◌, min, List}
use Rattle.std.specs.List.{fold}
use Rattle.journal.specs.declared.entries.Entry.{Entry}
use Rattle.journal.specs.declared.entries.Entry.TheVariants.{Turn, Air}
use Rattle.capture.specs.declared.clock.Clock.{Clock}

-- no turn has begun
abbrev pub first_clock : Clock
first_clock = record { slot = 0; packets = 0 }

-- the clock after an entry; the ninth packet of a slot and all after it have one time
abbrev pub clock_with : Clock → Entry → Clock
clock_with clock (Turn slot a b) = record { slot = slot; packets = 0 }
clock_with clock (Air side channel octets fate verdict) = record clock { packets = min (clock.packets + 1) 9 }
clock_with clock other = clock

-- the clock after these entries
abbrev pub clock_after : List Entry → Clock
clock_after entries = fold clock_with first_clock entries

-- in microseconds; times past 64 bits are at their end
abbrev pub microseconds : Clock → ℕ
microseconds clock = min (clock.slot * 1250 + clock.packets * 125) (2 ^ 64 - 1)
