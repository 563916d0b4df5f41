-- Small journals with one credit that is wrong, as worked examples use them.
use Rattle.std.specs.Prelude.{ℕ, List, [], ◌∷◌, ◌++◌}
use Rattle.ble_base.specs.declared.roles.Side.TheVariants.{A, B}
use Rattle.ble_base.specs.declared.verdicts.Verdict.TheVariants.{Good, Missed}
use Rattle.journal.specs.declared.entries.Entry.{Entry}
use Rattle.journal.specs.declared.entries.Entry.TheVariants.{Air, Enter, Fed, Sent, Shut, Took, Up}
use Rattle.journal.specs.declared.entries.Mark.TheVariants.{Pass}
use Rattle.run_model.specs.Rows.{one_connection_journal, one_event_journal, turn_entry}
use Rattle.journal_data.specs.journal_acks.Rows.{data_acknowledged, data_packet, host_packet, more_packet, more_reply}

-- a credit of a handle and a number of packets below 256
abbrev pub credit_of : ℕ → ℕ → List ℕ
credit_of handle count = 0x04 ∷ 0x13 ∷ 0x05 ∷ 0x01 ∷ handle ∷ 0x00 ∷ count ∷ 0x00 ∷ []

-- a packet of data of a host for its first link, with no octets
abbrev pub empty_packet : List ℕ
empty_packet = 0x02 ∷ 0x00 ∷ 0x00 ∷ 0x00 ∷ 0x00 ∷ []

-- the octet AA for a host, which starts a message
abbrev pub data_up : List ℕ
data_up = 0x02 ∷ 0x00 ∷ 0x20 ∷ 0x01 ∷ 0x00 ∷ 0xAA ∷ []

-- ---- before the first packet of a turn

-- the turn after that of the CONNECT_IND
abbrev pub next_turn : List Entry
next_turn = one_connection_journal ++ turn_entry 1 ∷ []

-- two packets without octets are credited at once
abbrev pub both_fed : List Entry
both_fed = next_turn ++ Fed B (empty_packet ++ empty_packet) ∷ []

abbrev pub two_together : List Entry
two_together = both_fed ++ Up B (credit_of 0 2) ∷ []

-- a packet without octets is credited only after the other side was fed
abbrev pub other_fed : List Entry
other_fed = next_turn ++ Fed A empty_packet ∷ Fed B empty_packet ∷ []

abbrev pub after_the_other : List Entry
after_the_other = other_fed ++ Up A (credit_of 0 1) ∷ []

-- ---- after it

-- the packet of the central is acknowledged, and is handed up at the peripheral
abbrev pub data_arrived : List Entry
data_arrived = data_acknowledged ++ Up A data_up ∷ []

-- a credit of it comes before another packet of its turn
abbrev pub before_packet : List Entry
before_packet = data_arrived ++ Up B (credit_of 0 1) ∷ Air B 37 (0xAA ∷ []) Pass Missed ∷ []

-- no packet is credited
abbrev pub of_nothing : List Entry
of_nothing = one_event_journal ++ Up B (credit_of 0 0) ∷ []

-- two packets of one link are credited one by one
abbrev pub one_by_one : List Entry
one_by_one = data_arrived ++ Up B (credit_of 0 1) ∷ Up B (credit_of 0 1) ∷ []

-- a credit of handle 1 comes before one of handle 0, and the other side receives data between them
abbrev pub descending : List Entry
descending = data_acknowledged ++ Up B (credit_of 1 1) ∷ Up A data_up ∷ Up B (credit_of 0 1) ∷ []

-- ---- both sides send

-- the reply of the peripheral to the PDU of data of the central, on data channel 25: a PDU with the octet AA, with SN 1
-- and NESN 0
abbrev pub data_reply : List ℕ
data_reply = 0x29 ∷ 0x41 ∷ 0x76 ∷ 0x71 ∷ 0x5B ∷ 0xFB ∷ 0x80 ∷ 0xAE ∷ 0x93 ∷ 0x52 ∷ []

-- each host gives a packet of the octet AA before event 0, and both say that more waits
abbrev pub both_say_more : List Entry
both_say_more =
    one_connection_journal ++ turn_entry 1 ∷ Fed A (host_packet 0xAA) ∷ Fed B (host_packet 0xAA) ∷ turn_entry 2
    ∷ Enter A 1 0 25 ∷ Enter B 1 0 25 ∷ Air B 25 more_packet Pass Good ∷ Air A 25 more_reply Pass Good ∷ []

-- each of them is taken, and the first one is acknowledged
abbrev pub both_taken : List Entry
both_taken =
    both_say_more ++ turn_entry 3 ∷ Sent B 1 1 2 (0xAA ∷ []) ∷ Air B 25 data_packet Pass Good ∷ Took A 1 1 2 (0xAA ∷ [])
    ∷ Sent A 1 1 2 (0xAA ∷ []) ∷ Air A 25 data_reply Pass Good ∷ Took B 1 1 2 (0xAA ∷ []) ∷ Up A data_up ∷ []

-- a credit comes before data for its host
abbrev pub before_data : List Entry
before_data = both_taken ++ Up B (credit_of 0 1) ∷ Up B data_up ∷ []

-- ---- a link is shut as a turn ends

-- the event that link 1 of B, under handle 0, has ended: with the reason 16, and with another one
abbrev pub end_report : List ℕ
end_report = 0x04 ∷ 0x05 ∷ 0x04 ∷ 0x00 ∷ 0x00 ∷ 0x00 ∷ 0x16 ∷ []

abbrev pub other_report : List ℕ
other_report = 0x04 ∷ 0x05 ∷ 0x04 ∷ 0x00 ∷ 0x00 ∷ 0x00 ∷ 0x13 ∷ []

-- B shuts it after a credit
abbrev pub shut_late : List Entry
shut_late = data_arrived ++ Up B (credit_of 0 1) ∷ Shut B 1 (record { 0 = 0x16 }) ∷ []

-- the event has another reason than the line
abbrev pub other_reason : List Entry
other_reason = shut_late ++ Up B other_report ∷ []

-- B gets data, or one more credit, once it has shut the link
abbrev pub data_after_shut : List Entry
data_after_shut = shut_late ++ Up B data_up ∷ []

abbrev pub credit_after_shut : List Entry
credit_after_shut = shut_late ++ Up B (credit_of 1 1) ∷ []

-- or the event comes a second time
abbrev pub reported_again : List Entry
reported_again = shut_late ++ Up B end_report ∷ Up B end_report ∷ []

-- no event of the link comes: the next turn begins
abbrev pub unreported : List Entry
unreported = data_arrived ++ Shut B 1 (record { 0 = 0x16 }) ∷ turn_entry 4 ∷ []
