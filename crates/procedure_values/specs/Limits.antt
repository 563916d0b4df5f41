-- The longest payloads of a link (Core 5.2, volume 6 part B, section 4.5.10).
use Rattle.std.specs.Prelude.{ℕ, min}
use Rattle.ble_base.specs.Limits.{first_payload_octets}
use Rattle.procedure_values.specs.declared.lengths.Lengths.{Lengths}
use Rattle.procedure_values.specs.declared.asks.Ask.{Ask}
use Rattle.procedure_values.specs.declared.asks.Ask.TheVariants.{Length}

-- before any exchange: 27 octets each way but for what this end receives (section 4.5.10)
abbrev pub first_lengths : ℕ → Lengths
first_lengths own_rx = record {
  own_rx = own_rx;
  own_tx = first_payload_octets;
  peer_rx = first_payload_octets;
  peer_tx = first_payload_octets;
}

-- the effective ones: no end sends more than the other receives (section 4.5.10)
abbrev pub rx_of : Lengths → ℕ
rx_of lengths = min lengths.own_rx lengths.peer_tx

abbrev pub tx_of : Lengths → ℕ
tx_of lengths = min lengths.own_tx lengths.peer_rx

abbrev pub with_own_tx : Lengths → ℕ → Lengths
with_own_tx lengths tx = record lengths { own_tx = tx }

abbrev pub with_peer : Lengths → ℕ → ℕ → Lengths
with_peer lengths rx tx = record lengths { peer_rx = rx; peer_tx = tx }

-- the limit that a host sets on what is transmitted holds at once (section 4.5.10)
abbrev pub lengths_asked : Ask → Lengths → Lengths
lengths_asked (Length tx) lengths = with_own_tx lengths tx
lengths_asked other lengths = lengths
