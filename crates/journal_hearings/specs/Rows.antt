-- Commands of a host with their answers, and the front of a small journal, as worked examples have them.
use Rattle.std.specs.Prelude.{ℕ, List, [], ◌∷◌}
use Rattle.ble_base.specs.declared.addresses.Address.{Address}
use Rattle.ble_base.specs.declared.roles.Side.TheVariants.{A, B}
use Rattle.ble_base.specs.declared.verdicts.Verdict.TheVariants.{Good}
use Rattle.journal.specs.declared.entries.Entry.{Entry}
use Rattle.journal.specs.declared.entries.Entry.TheVariants.{Air, Fed, Up}
use Rattle.journal.specs.declared.entries.Mark.TheVariants.{Pass as Passed}
use Rattle.journal_data.specs.controller_model.Rows.{address_a, address_b, public}
use Rattle.journal_data.specs.run_model.Rows.{answer, connectable_packet, connecting_octets, enabling_octets, status_answer, turn_entry}

-- LE Set Advertising Parameters: 20 ms, type 0, the public address, all channels, and filter policy 2
abbrev pub policy_octets : List ℕ
policy_octets =
    0x01 ∷ 0x06 ∷ 0x20 ∷ 0x0F ∷ 0x20 ∷ 0x00 ∷ 0x20 ∷ 0x00 ∷ 0x00
    ∷ 0x00 ∷ 0x00 ∷ 0x00 ∷ 0x00 ∷ 0x00 ∷ 0x00 ∷ 0x00 ∷ 0x00 ∷ 0x07 ∷ 0x02 ∷ []

-- LE Add Device To White List, with the public address of B
abbrev pub listing_octets : List ℕ
listing_octets = 0x01 ∷ 0x11 ∷ 0x20 ∷ 0x07 ∷ 0x00 ∷ 0x0B ∷ 0x00 ∷ 0x00 ∷ 0xEE ∷ 0xFF ∷ 0xC0 ∷ []

-- Host Number Of Completed Packets, of one packet of handle 0
abbrev pub completing_octets : List ℕ
completing_octets = 0x01 ∷ 0x35 ∷ 0x0C ∷ 0x05 ∷ 0x01 ∷ 0x00 ∷ 0x00 ∷ 0x01 ∷ 0x00 ∷ []

-- the status 0C of a command with this opcode, in two octets
abbrev pub refusal : ℕ → ℕ → List ℕ
refusal low high = 0x04 ∷ 0x0E ∷ 0x04 ∷ 0x01 ∷ low ∷ high ∷ 0x0C ∷ []

-- the two devices
abbrev pub device_a : Address
device_a = public address_a

abbrev pub device_b : Address
device_b = public address_b

-- A has sent its ADV_IND, and B is to answer it
abbrev pub offered_journal : List Entry
offered_journal =
    turn_entry 0 ∷ Fed A enabling_octets ∷ Up A (answer 0x0A 0x20) ∷ Fed B connecting_octets ∷ Up B status_answer
    ∷ Air A 37 connectable_packet Passed Good ∷ []
