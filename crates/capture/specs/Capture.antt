-- The capture file of a journal (our choice): three interfaces, and a packet for each packet on the air and each packet
-- between a host and its controller, in the order of the journal.
use Rattle.std.specs.Prelude.{ℕ, List, [], ◌∷◌, ◌++◌, codes, map, flat_map}
use Rattle.ble_base.specs.declared.roles.Side.{Side}
use Rattle.ble_base.specs.declared.roles.Side.TheVariants.{A, B}
use Rattle.journal.specs.declared.entries.Entry.{Entry}
use Rattle.journal.specs.declared.entries.Entry.TheVariants.{Fed, Up, Air}
use Rattle.capture.specs.Air.{air_packet}
use Rattle.capture.specs.Blocks.{section_header, interface, packet_block}
use Rattle.capture.specs.Centrals.{direction_of}
use Rattle.capture.specs.Clock.{microseconds, clock_after, clock_with}
use Rattle.capture.specs.Hosts.{fed_by, packets_ended}

-- a packet of a capture: the number of its interface, its time and its octets
pub record Packet : Type 0 where
  pub interface : ℕ
  pub time : ℕ
  pub octets : List ℕ

-- the air is interface 0, host a interface 1 and host b interface 2
abbrev pub host_interface : Side → ℕ
host_interface A = 1
host_interface B = 2

-- a packet between a host and its controller, as link type 201, LINKTYPE_BLUETOOTH_HCI_H4_WITH_PHDR, has it (the list
-- of link types of tcpdump.org): a direction of four octets, the most significant first, 0 for a packet of the host and
-- 1 for one of the controller; and the H4 packet
abbrev pub host_packet : ℕ → Side → ℕ → List ℕ → Packet
host_packet direction side time octets =
    record { interface = host_interface side; time = time; octets = 0 ∷ 0 ∷ 0 ∷ direction ∷ octets }

-- the packets of a host that an entry ends, after the entries before it
abbrev pub host_packets : List Entry → Side → List ℕ → List Packet
host_packets past side octets =
    map (host_packet 0 side (microseconds (clock_after past))) (packets_ended (fed_by side past) octets)

-- the packets of an entry, after the entries before it: those that a host has sent whole with it, the one for a host,
-- or the one on the air
abbrev pub packets_of : List Entry → Entry → List Packet
packets_of past (Fed side octets) = host_packets past side octets
packets_of past (Up side octets) = host_packet 1 side (microseconds (clock_after past)) octets ∷ []
packets_of past (Air side channel octets fate verdict) =
    record {
      interface = 0;
      time = microseconds (clock_with (clock_after past) (Air side channel octets fate verdict));
      octets = air_packet channel octets fate verdict (direction_of past side channel octets);
    } ∷ []
packets_of past other = []

-- the packets of these entries, after the entries before them
abbrev pub packets_after : List Entry → List Entry → List Packet
packets_after past [] = []
packets_after past (entry ∷ entries) = packets_of past entry ++ packets_after (past ++ entry ∷ []) entries

abbrev pub octets_of : Packet → List ℕ
octets_of packet = packet_block packet.interface packet.time packet.octets

-- the blocks of those packets
abbrev pub blocks_after : List Entry → List Entry → List ℕ
blocks_after past entries = flat_map octets_of (packets_after past entries)

-- the blocks before all packets
abbrev pub file_header : List ℕ
file_header =
    section_header ++ interface 256 (codes "air") ++ interface 201 (codes "host a") ++ interface 201 (codes "host b")

-- the octets of the capture
abbrev pub capture : List Entry → List ℕ
capture entries = file_header ++ blocks_after [] entries
