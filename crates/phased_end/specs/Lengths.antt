-- The lengths of an end (Core 5.2, volume 6 part B, section 4.5.10).
use Rattle.std.specs.Prelude.{◌≤◌, ⊤}
use Rattle.ble_base.specs.Limits.{payload_octets}
use Rattle.procedures.specs.procedure_values.declared.lengths.Lengths.{Lengths}
use Rattle.procedures.specs.procedure_stages.declared.steps.Effect.{Effect}
use Rattle.procedures.specs.procedure_stages.declared.steps.Effect.TheVariants.{Lengths as new_lengths}

-- on what is transmitted neither the own limit nor that of the peer is below 27 octets, and no own limit is above that
-- of a payload
pub record HasLengths (lengths : Lengths) : Type 0 where
  pub own : 27 ≤ lengths.own_tx
  pub peer : 27 ≤ lengths.peer_rx
  pub own_to : lengths.own_tx ≤ payload_octets
  pub own_rx_to : lengths.own_rx ≤ payload_octets

-- the lengths in an effect are at most that of a payload
abbrev pub HasPayloadLengths : Effect → Type 0
HasPayloadLengths (new_lengths rx tx) = (rx ≤ payload_octets) × (tx ≤ payload_octets)
HasPayloadLengths other = ⊤
