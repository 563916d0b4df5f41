-- Which side is the central of a link, by the access address in its CONNECT_IND (Core 5.2, volume 6 part B, section
-- 2.3.3.1).
use Rattle.std.specs.Prelude.{ℕ, ◌%◌, ◌==◌, ◌&&◌, nat_le, nat_lt, if◌then◌else◌, List, length, take, drop, slice_index, Option, Some, None}
use Rattle.std.specs.List.{fold}
use Rattle.std.specs.Option.{option_map}
use Rattle.ble_base.specs.declared.roles.Side.{Side}
use Rattle.wire_fields.specs.Field.{number_of}
use Rattle.journal.specs.declared.entries.Entry.{Entry}
use Rattle.journal.specs.declared.entries.Entry.TheVariants.{Air}
use Rattle.capture.specs.declared.centrals.Direction.{Direction}
use Rattle.capture.specs.declared.centrals.Direction.TheVariants.{Unknown, FromCentral, FromPeripheral}
use Rattle.capture.specs.Air.{plain}
use Rattle.capture.specs.Sides.{same_side}

-- the access address of the link that a packet begins, whose whitening is off: after the access address of the
-- advertising channels, a header of type 5 and 34 octets, and two device addresses
abbrev pub new_access : List ℕ → Option ℕ
new_access octets =
    if nat_le 22 (length octets) && (slice_index octets 4 % 16 == 5) && (slice_index octets 5 == 34)
    then Some (number_of (take 4 (drop 18 octets)))
    else None

-- the same of a packet as it was sent; a link begins on an advertising channel, 37 to 39
abbrev pub begun_access : ℕ → List ℕ → Option ℕ
begun_access channel octets =
    if nat_le 37 channel && nat_lt channel 40 then new_access (plain channel octets) else None

-- the access address and the central of the link that an entry begins
abbrev pub new_link : Entry → Option (ℕ × Side)
new_link (Air side channel octets fate verdict) = option_map (λ access. (access, side)) (begun_access channel octets)
new_link other = None

-- the central of the link with this access address, after one more link
abbrev pub central_with : ℕ → Option Side → Option (ℕ × Side) → Option Side
central_with access before None = before
central_with access before (Some link) = if access == link.0 then Some link.1 else before

-- the side that sent the last CONNECT_IND with this access address
abbrev pub central_of : List Entry → ℕ → Option Side
central_of entries access = fold (λ before entry. central_with access before (new_link entry)) None entries

-- who sent a packet of a link with this central
abbrev pub sent_by : Side → Option Side → Direction
sent_by side None = Unknown
sent_by side (Some central) = if same_side side central then FromCentral else FromPeripheral

-- who sent a packet, after these entries; a packet of a link has a data channel, 0 to 36, and an access address
abbrev pub direction_of : List Entry → Side → ℕ → List ℕ → Direction
direction_of entries side channel octets =
    if nat_lt channel 37 && nat_le 4 (length octets)
    then sent_by side (central_of entries (number_of (take 4 octets)))
    else Unknown
