-- Packets on the air, as link type 256, LINKTYPE_BLUETOOTH_LE_LL_WITH_PHDR, has them (the list of link types of
-- tcpdump.org): a pseudo header of ten octets, and the packet from its access address to its CRC.
use Rattle.std.specs.Prelude.{ℕ, ◌+◌, ◌==◌, nat_le, nat_lt, if◌then◌else◌, List, [], ◌∷◌, ◌++◌, length, take, drop}
use Rattle.ble_base.specs.declared.verdicts.Verdict.{Verdict}
use Rattle.ble_base.specs.declared.verdicts.Verdict.TheVariants.{Missed, Broken, Forged, Good}
use Rattle.frame_bits.specs.Whitening.{whitening_of}
use Rattle.journal.specs.declared.entries.Mark.{Mark}
use Rattle.journal.specs.declared.entries.Mark.TheVariants.{Pass, Lost, Damage}
use Rattle.radio_replay.specs.Damage.{xor_of}
use Rattle.capture.specs.declared.centrals.Direction.{Direction}
use Rattle.capture.specs.declared.centrals.Direction.TheVariants.{Unknown, FromCentral, FromPeripheral}
use Rattle.capture.specs.Blocks.{half}

-- the RF channel of a channel index, in the order of frequencies (Core 5.2, volume 6 part B, section 1.4.1); an index
-- past 39 is not that of a channel, and stays
abbrev pub rf_channel : ℕ → ℕ
rf_channel channel =
    if channel == 37 then 0
    else if channel == 38 then 12
    else if nat_le channel 10 then channel + 1
    else if nat_le channel 36 then channel + 2
    else channel

-- the octets that the receiver heard; those that were sent, where the packet was lost
abbrev pub heard : Mark → List ℕ → List ℕ
heard Pass octets = octets
heard Lost octets = octets
heard (Damage at pattern) octets = take at octets ++ xor_of pattern (drop at octets)

-- the whitening is taken off what is after the access address (Core 5.2, volume 6 part B, section 3.2)
abbrev pub plain : ℕ → List ℕ → List ℕ
plain channel octets =
    if nat_lt channel 40 then take 4 octets ++ whitening_of channel (drop 4 octets) else octets

-- the four octets of the access address that was sent; zeros for those that are missing
abbrev pub reference : List ℕ → List ℕ
reference octets = take 4 (octets ++ 0 ∷ 0 ∷ 0 ∷ 0 ∷ [])

-- the bits of the CRC: it was checked, 0400, where the receiver heard the packet, and it was right, 0800
abbrev pub crc_bits : Verdict → ℕ
crc_bits Missed = 0
crc_bits Broken = 0x0400
crc_bits Forged = 0x0C00
crc_bits Good = 0x0C00

-- the type of the PDU in bits 7 to 9: 2 for data of the central, 3 for data of the peripheral, and 0 elsewhere
abbrev pub type_bits : Direction → ℕ
type_bits Unknown = 0
type_bits FromCentral = 0x0100
type_bits FromPeripheral = 0x0180

-- the flags: the whitening is taken off, 0001, and the reference access address is that of a whole one, 0010
abbrev pub flags : ℕ → List ℕ → Verdict → Direction → ℕ
flags channel octets verdict direction =
    (if nat_lt channel 40 then 0x0001 else 0) + (if nat_le 4 (length octets) then 0x0010 else 0) + crc_bits verdict
    + type_bits direction

-- the pseudo header: the RF channel, no signal power, no noise power, no count of wrong bits, the reference access
-- address and the flags; and the octets that were heard
abbrev pub air_packet : ℕ → List ℕ → Mark → Verdict → Direction → List ℕ
air_packet channel octets fate verdict direction =
    rf_channel channel ∷ 0 ∷ 0 ∷ 0 ∷ reference octets ++ half (flags channel octets verdict direction)
    ++ plain channel (heard fate octets)
