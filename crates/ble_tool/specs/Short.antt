-- Schedules whose damages are all short (our choice).
use Rattle.std.specs.Prelude.{◌≡◌, ℕ, List}
use Rattle.ble_base.specs.declared.Config.{Config}
use Rattle.radio_replay.specs.Schedule.{Right, schedule_of}
use Rattle.radio_replay.specs.Script.{Turn}
use Rattle.short_damage.specs.Short.{AllAreShort}

-- each damage in the schedule of a text, where it is one, changes at most 24 consecutive bits of PDU and CRC
abbrev pub IsShortText : List ℕ → Type 0
IsShortText text =
    (a b : Config) (turns : List Turn) → schedule_of text ≡ Right a b turns
    → AllAreShort (record { a = a; b = b; turns = turns })
