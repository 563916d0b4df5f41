-- What the journal of a run says in numbers, as its lines are read (our choice).
use Rattle.std.specs.Prelude.{ℕ, ◌-◌, ◌==◌, max, List, fold, length, slice_index, if◌then◌else◌}
use Rattle.std.specs.List.{sum_by}
use Rattle.ble_base.specs.declared.roles.Side.{Side}
use Rattle.ble_base.specs.declared.roles.Side.TheVariants.{A, B}
use Rattle.journal.specs.declared.entries.Entry.{Entry}
use Rattle.journal.specs.declared.entries.Entry.TheVariants.{Opened, Up}

-- the number of the link that a line opens
abbrev pub opened_in : Entry → ℕ
opened_in (Opened side link handle role) = link
opened_in _ = 0

-- the highest number of a link that is opened
abbrev pub last_opened : List Entry → ℕ
last_opened journal = fold (λ last entry. max last (opened_in entry)) 0 journal

-- the octets of data in a packet to a host: those of an ACL packet after its header of four octets (Core 5.2, volume 4
-- part A, section 2; part E, section 5.4.2)
abbrev pub data_octets : List ℕ → ℕ
data_octets octets = if slice_index octets 0 == 2 then length octets - 5 else 0

-- those of a packet to the host of one side, for that of the other or of the same side
abbrev pub octets_for : (side other : Side) → List ℕ → ℕ
octets_for A A octets = data_octets octets
octets_for A B octets = 0
octets_for B A octets = 0
octets_for B B octets = data_octets octets

-- those that a line gives to the host of a side
abbrev pub octets_in : Side → Entry → ℕ
octets_in side (Up other octets) = octets_for side other octets
octets_in side _ = 0

abbrev pub octets_up : Side → List Entry → ℕ
octets_up side journal = sum_by (octets_in side) journal
