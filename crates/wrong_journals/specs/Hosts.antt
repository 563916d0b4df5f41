-- Journals in which a host receives what it must not, or does not receive what it must.
use Rattle.std.specs.Prelude.{List, [], ◌∷◌, ◌++◌}
use Rattle.ble_base.specs.declared.roles.Side.TheVariants.{A, B}
use Rattle.ble_base.specs.declared.verdicts.Verdict.TheVariants.{Good}
use Rattle.journal.specs.declared.entries.Entry.{Entry}
use Rattle.journal.specs.declared.entries.Entry.TheVariants.{Air, Enter, Fed, Shut, Up}
use Rattle.journal.specs.declared.entries.Mark.TheVariants.{Pass}
use Rattle.run_model.specs.Rows.{first_packet, one_event_journal, turn_entry}
use Rattle.journal_pdus.specs.journal_acks.Rows.{data_acknowledged, data_taken}
use Rattle.wrong_journals.specs.Events.{turns_before_first}

-- the octet AA for the host of the peripheral, as the start of a message
abbrev pub data_up : Entry
data_up = Up A (0x02 ∷ 0x00 ∷ 0x20 ∷ 0x01 ∷ 0x00 ∷ 0xAA ∷ [])

-- one packet of the host of the central is complete
abbrev pub credit : Entry
credit = Up B (0x04 ∷ 0x13 ∷ 0x05 ∷ 0x01 ∷ 0x00 ∷ 0x00 ∷ 0x01 ∷ 0x00 ∷ [])

-- the right journal
abbrev pub data_settled : List Entry
data_settled = data_acknowledged ++ data_up ∷ credit ∷ []

-- octets that were never taken
abbrev pub up_from_nothing : List Entry
up_from_nothing = one_event_journal ++ data_up ∷ []

-- octets are handed up twice
abbrev pub up_twice : List Entry
up_twice = data_acknowledged ++ data_up ∷ data_up ∷ []

-- as the continuation of a message
abbrev pub up_as_continuation : List Entry
up_as_continuation = data_acknowledged ++ Up A (0x02 ∷ 0x00 ∷ 0x10 ∷ 0x01 ∷ 0x00 ∷ 0xAA ∷ []) ∷ []

-- octets that were taken are not handed up before the next turn
abbrev pub never_up : List Entry
never_up = data_acknowledged ++ credit ∷ turn_entry 4 ∷ []

-- nor before the link is shut after the packets of a turn
abbrev pub shut_before_up : List Entry
shut_before_up = data_acknowledged ++ Shut A 1 (record { 0 = 0x16 }) ∷ []

-- a credit for a packet that the other side did not take
abbrev pub credit_from_nothing : List Entry
credit_from_nothing = one_event_journal ++ credit ∷ []

-- a credit of two packets, of which there is one
abbrev pub credit_twice : List Entry
credit_twice = data_acknowledged ++ data_up ∷ Up B (0x04 ∷ 0x13 ∷ 0x05 ∷ 0x01 ∷ 0x00 ∷ 0x00 ∷ 0x02 ∷ 0x00 ∷ []) ∷ []

-- a credit before the acknowledgement reached the central
abbrev pub credit_too_early : List Entry
credit_too_early = data_taken ++ data_up ∷ credit ∷ turn_entry 4 ∷ []

-- no credit before the next turn
abbrev pub never_credited : List Entry
never_credited = data_acknowledged ++ data_up ∷ turn_entry 4 ∷ []

-- a packet without octets, of the host of the central, is not reported before the first packet of its turn
abbrev pub before_credit : List Entry
before_credit =
    turns_before_first ++ Fed B (0x02 ∷ 0x00 ∷ 0x00 ∷ 0x00 ∷ 0x00 ∷ []) ∷ Enter A 1 0 25 ∷ Enter B 1 0 25 ∷ []

abbrev pub credit_after_packet : List Entry
credit_after_packet = before_credit ++ Air B 25 first_packet Pass Good ∷ credit ∷ []
