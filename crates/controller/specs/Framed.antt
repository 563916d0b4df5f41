-- The octets of a packet of the host.
use Rattle.std.specs.Prelude.{◌≡◌, ℕ, ◌≤◌, List, length, ⊤}
use Rattle.h4_frames.specs.declared.packet.HostPacket.TheVariants.{Acl}
use Rattle.h4_frames.specs.declared.packet.Fed.{Fed}
use Rattle.h4_frames.specs.declared.packet.Fed.TheVariants.{Packet}

-- of a packet of data with this number of octets, at most 251, there are all
abbrev pub HasOctets : ℕ → List ℕ → Type 0
HasOctets count body = count ≤ 251 → length body ≡ count

abbrev pub IsFramed : Fed → Type 0
IsFramed (Packet (Acl handle start count body)) = HasOctets count body.items
IsFramed other = ⊤
