-- The packets of a capture as a recorder writes them (our choice).
use Rattle.std.specs.Prelude.{ℕ, List, [], ◌∷◌, flat_map, map}
use Rattle.ble_base.specs.declared.roles.Side.{Side}
use Rattle.journal.specs.declared.entries.Entry.{Entry}
use Rattle.journal.specs.declared.entries.Entry.TheVariants.{Up, Air}
use Rattle.capture.specs.declared.centrals.Direction.{Direction}
use Rattle.capture.specs.Air.{air_packet}
use Rattle.capture.specs.Capture.{Packet, host_packet, octets_of}

-- the octets of packets of a host at this time
abbrev pub host_blocks : Side → ℕ → List (List ℕ) → List ℕ
host_blocks side time packets = flat_map octets_of (map (host_packet 0 side time) packets)

-- the packet of an entry that is no packet of a host, from the times before it and with it, and from who sent it
abbrev pub packet_by : (Side → ℕ → List ℕ → Direction) → ℕ → ℕ → Entry → List Packet
packet_by direction before now (Up side octets) = host_packet 1 side before octets ∷ []
packet_by direction before now (Air side channel octets fate verdict) =
    record {
      interface = 0;
      time = now;
      octets = air_packet channel octets fate verdict (direction side channel octets);
    } ∷ []
packet_by direction before now other = []
