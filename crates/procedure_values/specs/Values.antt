-- Values of the PDUs that this product sends, which are in their ranges (Core 5.2, volume 6 part B, section 2.4.2).
use Rattle.std.specs.Prelude.{ℕ, ◌≤◌, ◌+◌, ◌*◌, nat_le, nat_lt, ◌&&◌, Bool}
use Rattle.ble_base.specs.Limits.{first_payload_octets, payload_octets}
use Rattle.data_pdu.specs.Ranges.{IsUpdate}

-- the parameters that an update sets: interval in 1.25 ms, latency in connection events, timeout in 10 ms
pub record ParamValues : Type 0 where
  pub interval : ℕ
  pub latency : ℕ
  pub timeout : ℕ

-- a link may have them, with a window that begins at the old anchor (sections 4.5.1, 4.5.2 and 5.1.1)
abbrev pub IsParams : ParamValues → Type 0
IsParams p = IsUpdate 1 0 p.interval p.latency p.timeout

-- the most octets of a payload that an end receives or transmits (section 4.5.10)
pub record IsPayloadMax (octets : ℕ) : Type 0 where
  pub from : first_payload_octets ≤ octets
  pub to : octets ≤ payload_octets

-- parameters that a link may have (volume 4 part E, section 7.8.18)
abbrev pub are_valid : ℕ → ℕ → ℕ → ℕ → Bool
are_valid min max latency timeout =
    nat_le 6 min && nat_le max 3200 && nat_le min max && nat_le latency 499 && nat_le 10 timeout && nat_le timeout 3200
    && nat_lt ((1 + latency) * max) (timeout * 4)
