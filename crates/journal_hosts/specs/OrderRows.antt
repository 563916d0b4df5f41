-- Small journals of a side with two links, and ends of turns, as worked examples use them.
use Rattle.std.specs.Prelude.{List, [], ◌∷◌, ◌++◌, ℕ}
use Rattle.ble_base.specs.declared.roles.Role.TheVariants.{Peripheral}
use Rattle.ble_base.specs.declared.roles.Side.TheVariants.{A, B}
use Rattle.ble_base.specs.declared.verdicts.Verdict.TheVariants.{Missed}
use Rattle.journal.specs.declared.entries.Entry.{Entry}
use Rattle.journal.specs.declared.entries.Entry.TheVariants.{Air, Opened, Shut, Took, Up}
use Rattle.journal.specs.declared.entries.Mark.TheVariants.{Pass}
use Rattle.run_model.specs.Rows.{turn_entry}
use Rattle.journal_hosts.specs.CreditRows.{credit_of, data_up, end_report}

-- links 1 and 2 are opened under the handles 0 and 1. A start with the octet AA is taken on the first, then a
-- continuation with BB on the second; the PDU of control between them is no data, and the other side counts by itself
abbrev pub two_take : List Entry
two_take =
    Opened B 1 0 Peripheral ∷ Opened B 2 1 Peripheral ∷ Took B 1 1 2 (0xAA ∷ []) ∷ Took B 1 2 3 (0x12 ∷ [])
    ∷ Took A 2 1 2 (0xCC ∷ []) ∷ Took B 2 1 1 (0xBB ∷ []) ∷ []

-- the second piece as a packet, with the bits of a continuation and with those of a start
abbrev pub second_up : List ℕ
second_up = 0x02 ∷ 0x01 ∷ 0x10 ∷ 0x01 ∷ 0x00 ∷ 0xBB ∷ []

abbrev pub second_as_start : List ℕ
second_as_start = 0x02 ∷ 0x01 ∷ 0x20 ∷ 0x01 ∷ 0x00 ∷ 0xBB ∷ []

-- both in order
abbrev pub both_up : List Entry
both_up = two_take ++ Up B data_up ∷ Up B second_up ∷ []

-- the first link is shut, so that its piece is dropped
abbrev pub first_shut : List Entry
first_shut = two_take ++ Shut B 1 (record { 0 = 0x08 }) ∷ []

-- ---- as a turn ends

-- the host of A receives data and a credit; that of B then receives data, and B shuts a link
abbrev pub a_ends : List Entry
a_ends = Up A data_up ∷ Up A (credit_of 0 1) ∷ []

abbrev pub both_end : List Entry
both_end = a_ends ++ Up B data_up ∷ Shut B 1 (record { 0 = 0x16 }) ∷ Up B end_report ∷ []

-- a packet is on the air in the next turn
abbrev pub next_begins : List Entry
next_begins = both_end ++ turn_entry 4 ∷ Air B 37 (0xAA ∷ []) Pass Missed ∷ []

-- one is in this turn
abbrev pub packet_after_data : List Entry
packet_after_data = both_end ++ Air B 37 (0xAA ∷ []) Pass Missed ∷ []

-- a further piece is taken after those that went up
abbrev pub taken_after_data : List Entry
taken_after_data = both_up ++ Took B 1 3 1 (0xCC ∷ []) ∷ []

-- the host of A receives data after that of B
abbrev pub a_after_b : List Entry
a_after_b = both_up ++ Up A data_up ∷ []
