-- Packets whose head is complete and whose octets are still coming (our choice).
use Rattle.std.specs.Prelude.{ℕ, ◌+◌, ◌-◌, ◌<◌, ◌==◌, nat_lt, if◌then◌else◌, List, [], ◌∷◌, ◌++◌, length, Option, Some, None}
use Rattle.ble_base.specs.Limits.{payload_octets}
use Rattle.h4_frames.specs.declared.packet.HostPacket.{HostPacket}
use Rattle.h4_frames.specs.declared.packet.HostPacket.TheVariants.{Command, Acl}
use Rattle.h4_frames.specs.declared.part.CommandPart.{CommandPart}
use Rattle.h4_frames.specs.declared.part.AclPart.{AclPart}

-- at least one octet is left, and there is room for all that are left
abbrev pub HasRoom : CommandPart → Type 0
HasRoom part = (0 < part.left) × (length part.body.items + part.left < 256)

-- at least one octet is left
abbrev pub IsOpen : AclPart → Type 0
IsOpen part = 0 < part.left

-- the command with one octet more
abbrev pub command_with : CommandPart → ℕ → CommandPart
command_with part octet = record part { left = part.left - 1; body = record { items = part.body.items ++ octet ∷ [] } }

-- the command, if no octet is left
abbrev pub whole_command : CommandPart → Option HostPacket
whole_command part = if part.left == 0 then Some (Command part.opcode part.body) else None

-- the data with one octet more, up to 251 octets
abbrev pub kept_data : List ℕ → ℕ → List ℕ
kept_data body octet = if nat_lt (length body) payload_octets then body ++ octet ∷ [] else body

-- the ACL data with one octet more
abbrev pub acl_with : AclPart → ℕ → AclPart
acl_with part octet = record part { left = part.left - 1; body = record { items = kept_data part.body.items octet } }

-- the ACL data, if no octet is left
abbrev pub whole_acl : AclPart → Option HostPacket
whole_acl part = if part.left == 0 then Some (Acl part.handle part.start part.length part.body) else None
