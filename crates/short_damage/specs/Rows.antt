-- Damages of a worked example (our choice).
use Rattle.std.specs.Prelude.{ℕ, List, [], ◌∷◌}
use Rattle.air_frame.specs.Packet.{on_air}
use Rattle.radio_replay.specs.declared.fates.Fate.{Fate}
use Rattle.radio_replay.specs.declared.fates.Fate.TheVariants.{Damage}

-- these octets are added from this place of a packet on
abbrev pub damage_at : ℕ → List ℕ → Fate
damage_at place pattern = Damage place (record { items = pattern })

-- the first bit of the PDU
abbrev pub one_bit : Fate
one_bit = damage_at 4 (0x01 ∷ [])

-- 24 bits, the first of them in the middle of an octet
abbrev pub widest : Fate
widest = damage_at 5 (0xF0 ∷ 0xFF ∷ 0xFF ∷ 0x0F ∷ [])

-- the first and the last of 25 bits
abbrev pub too_wide : Fate
too_wide = damage_at 4 (0x01 ∷ 0x00 ∷ 0x00 ∷ 0x01 ∷ [])

-- the last bit of the access address
abbrev pub of_access : Fate
of_access = damage_at 3 (0x80 ∷ [])

-- five octets, of which a packet of ten has two
abbrev pub past_end : Fate
past_end = damage_at 8 (0xFF ∷ 0xFF ∷ 0xFF ∷ 0xFF ∷ 0xFF ∷ [])

-- 25 bits that are the generator of the CRC
abbrev pub generator_bits : Fate
generator_bits = damage_at 6 (0x01 ∷ 0xC0 ∷ 0xB4 ∷ 0x01 ∷ [])

-- the packet of a PDU with one octet of data on data channel 0
abbrev pub packet_with : ℕ → List ℕ
packet_with octet = on_air 0 0x71764129 1 (0x02 ∷ 0x01 ∷ octet ∷ [])
