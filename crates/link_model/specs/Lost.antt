-- When a link is lost, and which events a peripheral skips (Core 5.2, volume 6 part B, sections 4.5.1 and 4.5.2).
use Rattle.std.specs.Prelude.{ℕ, ◌+◌, ◌*◌, ◌&&◌, nat_le, nat_lt, Bool, false, Option, Some, None, if◌then◌else◌}
use Rattle.ble_base.specs.ErrorCodes.{connection_timeout, connection_not_established}
use Rattle.ble_base.specs.declared.roles.Role.{Role}
use Rattle.ble_base.specs.declared.roles.Role.TheVariants.{Central, Peripheral}
use Rattle.instants.specs.declared.indications.Params.{Params}
use Rattle.link_model.specs.declared.events.ConnectionEvent.{ConnectionEvent}
use Rattle.link_model.specs.declared.events.Reception.{Reception}

-- a link on which nothing good was received ends when six intervals have passed since the CONNECT_IND (section 4.5.2)
abbrev pub has_failed : ℕ → ℕ → ℕ → Bool
has_failed opened interval slot = nat_le (opened + 6 * interval) slot

-- any other link ends when the supervision timeout has passed since the last good packet; it is in units of 10 ms,
-- which are eight slots (section 4.5.2)
abbrev pub has_timed_out : ℕ → ℕ → ℕ → Bool
has_timed_out last timeout slot = nat_le (last + 8 * timeout) slot

-- the reason for which it ends at the start of a turn in this slot, if it does
abbrev pub reason_due : ℕ → Params → Option Reception → ℕ → Option ℕ
reason_due opened params None slot =
    if has_failed opened params.interval slot then Some connection_not_established else None
reason_due opened params (Some good) slot =
    if has_timed_out good.slot params.timeout slot then Some connection_timeout else None

-- a good packet was received in an earlier event, not more than this many events before
abbrev pub is_recent : Option Reception → ℕ → ℕ → Bool
is_recent None event latency = false
is_recent (Some good) event latency = nat_lt good.event event && nat_le event (good.event + latency)

-- a central serves every event; a peripheral with latency may skip events after one in which it received a good packet.
-- It does so where it is idle (section 4.5.1; that it always does so is our choice)
abbrev pub skips_by : Role → ConnectionEvent → Option Reception → Bool → Bool
skips_by Central event last_good idle = false
skips_by Peripheral event last_good idle = is_recent last_good event.number event.latency && idle
