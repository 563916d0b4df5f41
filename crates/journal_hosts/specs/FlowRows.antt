-- Small journals of a host that has turned flow control on, as worked examples use them.
use Rattle.std.specs.Prelude.{ℕ, List, [], ◌∷◌, ◌++◌}
use Rattle.ble_base.specs.declared.roles.Role.TheVariants.{Peripheral}
use Rattle.ble_base.specs.declared.roles.Side.TheVariants.{B}
use Rattle.journal.specs.declared.entries.Entry.{Entry}
use Rattle.journal.specs.declared.entries.Entry.TheVariants.{Fed, Opened, Took, Up}
use Rattle.journal_hosts.specs.CreditRows.{data_up}

-- Set Controller To Host Flow Control, on; and Host Buffer Size with one buffer of 27 octets
abbrev pub flow_octets : List ℕ
flow_octets =
    0x01 ∷ 0x31 ∷ 0x0C ∷ 0x01 ∷ 0x01
    ∷ 0x01 ∷ 0x33 ∷ 0x0C ∷ 0x07 ∷ 0x1B ∷ 0x00 ∷ 0x00 ∷ 0x01 ∷ 0x00 ∷ 0x00 ∷ 0x00 ∷ []

-- the Command Complete of the command with these octets of its opcode
abbrev pub accepts : ℕ → ℕ → List ℕ
accepts low high = 0x04 ∷ 0x0E ∷ 0x04 ∷ 0x01 ∷ low ∷ high ∷ 0x00 ∷ []

-- both are accepted, and then a link is opened under the handle 0
abbrev pub flow_turned_on : List Entry
flow_turned_on =
    Fed B flow_octets ∷ Up B (accepts 0x31 0x0C) ∷ Up B (accepts 0x33 0x0C) ∷ Opened B 1 0 Peripheral ∷ []

-- one PDU is taken, and then another
abbrev pub one_taken : List Entry
one_taken = flow_turned_on ++ Took B 1 1 2 (0xAA ∷ []) ∷ []

abbrev pub one_waits : List Entry
one_waits = one_taken ++ Up B data_up ∷ Took B 1 2 2 (0xAA ∷ []) ∷ []

-- Host Number Of Completed Packets: one packet of the handle 0
abbrev pub one_returned : List ℕ
one_returned = 0x01 ∷ 0x35 ∷ 0x0C ∷ 0x05 ∷ 0x01 ∷ 0x00 ∷ 0x00 ∷ 0x01 ∷ 0x00 ∷ []

-- the same for handle 1, which no link has
abbrev pub other_returned : List ℕ
other_returned = 0x01 ∷ 0x35 ∷ 0x0C ∷ 0x05 ∷ 0x01 ∷ 0x01 ∷ 0x00 ∷ 0x01 ∷ 0x00 ∷ []

-- a packet of data of 28 octets
abbrev pub long_up : List ℕ
long_up =
    0x02 ∷ 0x00 ∷ 0x20 ∷ 0x1C ∷ 0x00 ∷ 0 ∷ 0 ∷ 0 ∷ 0 ∷ 0 ∷ 0 ∷ 0 ∷ 0 ∷ 0 ∷ 0 ∷ 0 ∷ 0 ∷ 0 ∷ 0 ∷ 0 ∷ 0 ∷ 0 ∷ 0 ∷ 0 ∷ 0 ∷ 0
    ∷ 0 ∷ 0 ∷ 0 ∷ 0 ∷ 0 ∷ 0 ∷ 0 ∷ []
