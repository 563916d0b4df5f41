-- The journal of a link on which the central sends a PDU of data, as worked examples have it.
use Rattle.std.specs.Prelude.{ℕ, List, [], ◌∷◌, ◌++◌}
use Rattle.ble_base.specs.declared.roles.Side.{Side}
use Rattle.ble_base.specs.declared.roles.Side.TheVariants.{A, B}
use Rattle.ble_base.specs.declared.verdicts.Verdict.TheVariants.{Good}
use Rattle.journal.specs.declared.entries.Entry.{Entry}
use Rattle.journal.specs.declared.entries.Entry.TheVariants.{Air, Enter, Fed, Sent, Took}
use Rattle.journal.specs.declared.entries.Mark.TheVariants.{Pass as Passed}
use Rattle.journal_packets.specs.link_model.Acknowledgement.{Pdu}
use Rattle.link_calls.specs.run_model.Rows.{first_reply, one_connection_journal, turn_entry}

-- a packet of a host on its first link, with one octet, which starts a message
abbrev pub host_packet : ℕ → List ℕ
host_packet octet = 0x02 ∷ 0x00 ∷ 0x00 ∷ 0x01 ∷ 0x00 ∷ octet ∷ []

-- the PDU of that packet, for the octet AA
abbrev pub data_pdu : Pdu
data_pdu = record { llid = 2; body = 0xAA ∷ [] }

-- ---- the packets, on data channel 25

-- the first packet of the central, with MD 1
abbrev pub more_packet : List ℕ
more_packet = 0x29 ∷ 0x41 ∷ 0x76 ∷ 0x71 ∷ 0x40 ∷ 0xFA ∷ 0x92 ∷ 0xFE ∷ 0x50 ∷ []

-- the reply of the peripheral to a first packet, with MD 1
abbrev pub more_reply : List ℕ
more_reply = 0x29 ∷ 0x41 ∷ 0x76 ∷ 0x71 ∷ 0x44 ∷ 0xFA ∷ 0x41 ∷ 0xF8 ∷ 0x50 ∷ []

-- the PDU of data of the central, after the first exchange of the link
abbrev pub data_packet : List ℕ
data_packet = 0x29 ∷ 0x41 ∷ 0x76 ∷ 0x71 ∷ 0x5F ∷ 0xFB ∷ 0x80 ∷ 0xE8 ∷ 0x52 ∷ 0xFC ∷ []

-- the reply of the peripheral to that, once it took the PDU: an empty PDU with SN 1, NESN 0 and MD 0
abbrev pub reply_packet : List ℕ
reply_packet = 0x29 ∷ 0x41 ∷ 0x76 ∷ 0x71 ∷ 0x58 ∷ 0xFA ∷ 0x78 ∷ 0xE8 ∷ 0x50 ∷ []

-- ---- the journal

-- the host of a side gives a packet of the octet AA, and both sides enter event 0, in the turn of its anchor, which is
-- turn 2
abbrev pub given_to : Side → List Entry
given_to side =
    one_connection_journal ++ turn_entry 1 ∷ Fed side (host_packet 0xAA) ∷ turn_entry 2 ∷ Enter A 1 0 25
    ∷ Enter B 1 0 25 ∷ []

-- the central was given it, and said that more waits
abbrev pub central_says_more : List Entry
central_says_more = given_to B ++ Air B 25 more_packet Passed Good ∷ Air A 25 first_reply Passed Good ∷ []

-- so the event has a second slot, in the next turn
abbrev pub second_slot : List Entry
second_slot = central_says_more ++ turn_entry 3 ∷ []

-- in which the central sends the PDU
abbrev pub data_sent : List Entry
data_sent = second_slot ++ Sent B 1 1 data_pdu.llid data_pdu.body ∷ []

-- it reaches the peripheral
abbrev pub data_heard : List Entry
data_heard = data_sent ++ Air B 25 data_packet Passed Good ∷ []

-- which takes it
abbrev pub data_taken : List Entry
data_taken = data_heard ++ Took A 1 1 data_pdu.llid data_pdu.body ∷ []

-- and acknowledges it
abbrev pub data_acknowledged : List Entry
data_acknowledged = data_taken ++ Air A 25 reply_packet Passed Good ∷ []
