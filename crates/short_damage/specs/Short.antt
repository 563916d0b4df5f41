-- Damage of few consecutive bits of a packet (our choice; the order of bits on the air is that of Core 5.2, volume 6
-- part B, section 1.2).
use Rattle.std.specs.Prelude.{◌≡◌, ℕ, ◌<◌, ◌≤◌, ◌^◌, List, length, take, drop, replicate, ⊤}
use Rattle.std.specs.List.{All}
use Rattle.frame_bits.specs.AirBits.{air_bits, DiffersWithin}
use Rattle.radio_replay.specs.Damage.{damaged_packet}
use Rattle.radio_replay.specs.Script.{Script}
use Rattle.radio_replay.specs.declared.fates.Fate.{Fate}
use Rattle.radio_replay.specs.declared.fates.Fate.TheVariants.{Pass, Lost, Damage}
use Rattle.link_calls.specs.run_model.Run.{Given}

-- the bits of a packet that a fate changes lie within this many consecutive ones of its PDU and CRC, in the order of
-- the air. So its access address stays; what reaches past its end changes nothing
pub record ChangesWithin (width : ℕ) (fate : Fate) (packet : List ℕ) : Type 0 where
  pub access : take 4 (damaged_packet fate packet) ≡ take 4 packet
  pub start : ℕ
  pub bits : DiffersWithin width start (air_bits (drop 4 packet)) (air_bits (drop 4 (damaged_packet fate packet)))

-- a pattern is one of octets, as each pattern of a schedule is
abbrev pub HasOctets : Fate → Type 0
HasOctets Pass = ⊤
HasOctets Lost = ⊤
HasOctets (Damage at pattern) = All (λ octet. octet < 2 ^ 8) pattern.items

-- a fate is no damage, or one of at most 24 consecutive bits of PDU and CRC, whatever the packet
pub record IsShort (fate : Fate) : Type 0 where
  pub octets : HasOctets fate
  pub changes : (packet : List ℕ) → ChangesWithin 24 fate packet

-- the ones of a pattern lie within this many consecutive bits, in the order of the air
pub record HasOnesWithin (width : ℕ) (pattern : List ℕ) : Type 0 where
  pub start : ℕ
  pub bits : DiffersWithin width start (air_bits (replicate (length pattern) 0)) (air_bits pattern)

-- the same, seen from the fate alone: the pattern begins after the access address and has its ones within 24 bits
abbrev pub IsShortPattern : Fate → Type 0
IsShortPattern Pass = ⊤
IsShortPattern Lost = ⊤
IsShortPattern (Damage at pattern) = (4 ≤ at) × HasOctets (Damage at pattern) × HasOnesWithin 24 pattern.items

-- each damage of a schedule is short
abbrev pub AllAreShort : Script → Type 0
AllAreShort script = All (λ turn. All IsShort turn.fates) script.turns

-- and each of those that a run is given
abbrev pub AreShortIn : Given → Type 0
AreShortIn given = All (λ plan. All IsShort plan.fates) given.plans
