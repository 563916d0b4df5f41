-- How a schedule keeps a fate (our choice).
use Rattle.std.specs.Prelude.{◌≤◌, length}
use Rattle.std.specs.Bool.{⊤}
use Rattle.radio_replay.specs.declared.fates.Fate.{Fate}
use Rattle.radio_replay.specs.declared.fates.Fate.TheVariants as fate
use Rattle.radio_replay.specs.declared.kept_fates.Storage.{Storage}
use Rattle.radio_replay.specs.declared.kept_fates.Storage.TheVariants.{Pass, Lost, Damage}
use Rattle.ble_base.specs.Limits.{air_packet_octets}

-- the fate that is kept
abbrev pub stored_fate : Storage → Fate
stored_fate Pass = fate.Pass
stored_fate Lost = fate.Lost
stored_fate (Damage at pattern) = fate.Damage at (record { items = pattern.items })

-- a pattern is at most as long as a fate can hold
abbrev pub Fits : Storage → Type 0
Fits Pass = ⊤
Fits Lost = ⊤
Fits (Damage at pattern) = length pattern.items ≤ air_packet_octets
