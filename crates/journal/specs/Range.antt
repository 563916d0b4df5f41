-- The entries whose numbers fit their types (our choice).
use Rattle.std.specs.Prelude.{◌<◌, ◌^◌}
use Rattle.std.specs.Bool.{⊤}
use Rattle.hex.specs.Hex.{IsBytes}
use Rattle.journal.specs.declared.entries.Entry.{Entry}
use Rattle.journal.specs.declared.entries.Entry.TheVariants.{Turn, Fed, Up, Air, Opened, Shut, Sent, Took, Enter, Applied, Began, Refused, Done}
use Rattle.journal.specs.declared.entries.Mark.{Mark}
use Rattle.journal.specs.declared.entries.Mark.TheVariants.{Pass, Lost, Damage}

-- the place fits 16 bits, and the pattern has octets
abbrev pub IsMark : Mark → Type 0
IsMark Pass = ⊤
IsMark Lost = ⊤
IsMark (Damage at pattern) = (at < 2 ^ 16) × IsBytes pattern

-- each number fits its type
abbrev pub IsEntry : Entry → Type 0
IsEntry (Turn slot a b) = slot < 2 ^ 64
IsEntry (Fed side octets) = IsBytes octets
IsEntry (Up side octets) = IsBytes octets
IsEntry (Air side channel octets fate verdict) = (channel < 2 ^ 8) × IsBytes octets × IsMark fate
IsEntry (Opened side link handle role) = (link < 2 ^ 64) × (handle < 2 ^ 16)
IsEntry (Shut side link reason) = (link < 2 ^ 64) × (reason.0 < 2 ^ 8)
IsEntry (Sent side link number llid body) = (link < 2 ^ 64) × (number < 2 ^ 64) × (llid < 2 ^ 8) × IsBytes body
IsEntry (Took side link number llid body) = (link < 2 ^ 64) × (number < 2 ^ 64) × (llid < 2 ^ 8) × IsBytes body
IsEntry (Enter side link event channel) = (link < 2 ^ 64) × (event < 2 ^ 64) × (channel < 2 ^ 8)
IsEntry (Applied side link number event) = (link < 2 ^ 64) × (number < 2 ^ 64) × (event < 2 ^ 64)
IsEntry (Began side link kind) = link < 2 ^ 64
IsEntry (Refused side link kind code) = (link < 2 ^ 64) × (code.0 < 2 ^ 8)
IsEntry (Done side link kind) = link < 2 ^ 64
