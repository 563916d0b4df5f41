-- Journals that differ in one thing from that of a link on which the central sends a PDU of data.
use Rattle.std.specs.Prelude.{ℕ, List, [], ◌∷◌, ◌++◌}
use Rattle.ble_base.specs.declared.roles.Role.TheVariants.{Central}
use Rattle.ble_base.specs.declared.roles.Side.TheVariants.{A, B}
use Rattle.ble_base.specs.declared.verdicts.Verdict.TheVariants.{Good, Missed}
use Rattle.journal.specs.declared.entries.Entry.{Entry}
use Rattle.journal.specs.declared.entries.Entry.TheVariants.{Air, Fed, Sent, Took, Up}
use Rattle.journal.specs.declared.entries.Mark.TheVariants.{Lost, Pass}
use Rattle.journal_pdus.specs.journal_controls.Rows.{begun_on}
use Rattle.journal_pdus.specs.link_model.keyed_control.Keyed.{Keyed}
use Rattle.journal_pdus.specs.link_model.keyed_control.KeyedSteps.{Enters, keyed_after}
use Rattle.run_model.specs.Rows.{one_event_journal, turn_entry}
use Rattle.journal_pdus.specs.journal_acks.Rows.{central_says_more, data_heard, data_packet, data_sent, data_taken, host_packet, second_slot}
use Rattle.journal_pdus.specs.journal_slots.Rows.{next_packet}

-- ---- packets of the central on data channel 25, in the second slot

-- the PDU of data, with MD 1
abbrev pub data_with_more : List ℕ
data_with_more = 0x29 ∷ 0x41 ∷ 0x76 ∷ 0x71 ∷ 0x4F ∷ 0xFB ∷ 0x80 ∷ 0xF3 ∷ 0x17 ∷ 0x9A ∷ []

-- with SN and NESN 0
abbrev pub data_as_first : List ℕ
data_as_first = 0x29 ∷ 0x41 ∷ 0x76 ∷ 0x71 ∷ 0x53 ∷ 0xFB ∷ 0x80 ∷ 0x23 ∷ 0xD1 ∷ 0xBB ∷ []

-- with the octet AB
abbrev pub other_data : List ℕ
other_data = 0x29 ∷ 0x41 ∷ 0x76 ∷ 0x71 ∷ 0x5F ∷ 0xFB ∷ 0x81 ∷ 0x28 ∷ 0xE6 ∷ 0xFD ∷ []

-- whitened for data channel 24
abbrev pub data_on_another : List ℕ
data_on_another = 0x29 ∷ 0x41 ∷ 0x76 ∷ 0x71 ∷ 0x96 ∷ 0x09 ∷ 0x8E ∷ 0x97 ∷ 0x8E ∷ 0xD4 ∷ []

-- an empty PDU with SN 1, NESN 1 and MD 1
abbrev pub empty_with_more : List ℕ
empty_with_more = 0x29 ∷ 0x41 ∷ 0x76 ∷ 0x71 ∷ 0x4C ∷ 0xFA ∷ 0xE7 ∷ 0xF5 ∷ 0x50 ∷ []

-- the central in event 0, which is in turn 2
abbrev pub central_entered : Keyed
central_entered = keyed_after (Enters 2) (begun_on Central)

-- ---- what is taken

-- the peripheral takes the PDU again
abbrev pub taken_twice : List Entry
taken_twice = data_taken ++ Took A 1 1 2 (0xAA ∷ []) ∷ []

-- it takes a PDU that nothing brought
abbrev pub taken_from_nothing : List Entry
taken_from_nothing = one_event_journal ++ Took A 1 1 2 (0xAA ∷ []) ∷ []

-- it answers, and neither takes nor acknowledges the PDU that it heard: its empty PDU has SN 1 and NESN 1
abbrev pub never_taken : List Entry
never_taken = data_heard ++ Air A 25 next_packet Pass Good ∷ []

-- it takes a PDU that was lost
abbrev pub taken_though_lost : List Entry
taken_though_lost = data_sent ++ Air B 25 data_packet Lost Missed ∷ Took A 1 1 2 (0xAA ∷ []) ∷ []

-- it takes other octets than it heard
abbrev pub taken_otherwise : List Entry
taken_otherwise = data_heard ++ Took A 1 1 2 (0xAB ∷ []) ∷ []

-- it takes the PDU in the turn after that of its packet
abbrev pub taken_in_another_turn : List Entry
taken_in_another_turn = data_heard ++ turn_entry 4 ∷ Took A 1 1 2 (0xAA ∷ []) ∷ []

-- ---- what is sent

-- the packet of a `sent` line comes in the turn after that line
abbrev pub sent_in_first_slot : List Entry
sent_in_first_slot = central_says_more ++ Sent B 1 1 2 (0xAA ∷ []) ∷ []

abbrev pub sent_in_another_turn : List Entry
sent_in_another_turn = sent_in_first_slot ++ turn_entry 3 ∷ Air B 25 data_packet Pass Good ∷ []

-- a `sent` line of other octets than the host submitted
abbrev pub sent_otherwise : List Entry
sent_otherwise = second_slot ++ Sent B 1 1 2 (0xAB ∷ []) ∷ []

-- with the wrong number
abbrev pub sent_misnumbered : List Entry
sent_misnumbered = second_slot ++ Sent B 1 2 2 (0xAA ∷ []) ∷ []

-- as the continuation of a message
abbrev pub sent_as_continuation : List Entry
sent_as_continuation = second_slot ++ Sent B 1 1 1 (0xAA ∷ []) ∷ []

-- of nothing, though nothing was submitted
abbrev pub sent_from_nothing : List Entry
sent_from_nothing = one_event_journal ++ turn_entry 3 ∷ Sent B 1 1 2 (0xAA ∷ []) ∷ []

-- a further PDU, while the one before it is not acknowledged. The host submitted it in this turn, so MD is 1 in the
-- packet before
abbrev pub two_submitted : List Entry
two_submitted = second_slot ++ Fed B (host_packet 0xBB) ∷ Sent B 1 1 2 (0xAA ∷ []) ∷ []

abbrev pub first_taken : List Entry
first_taken = two_submitted ++ Air B 25 data_with_more Pass Good ∷ Took A 1 1 2 (0xAA ∷ []) ∷ []

abbrev pub sent_too_early : List Entry
sent_too_early = first_taken ++ Sent B 1 2 2 (0xBB ∷ []) ∷ []

-- no packet comes after a `sent` line, but an event to the host
abbrev pub sent_without_packet : List Entry
sent_without_packet = data_sent ++ Up B (0x04 ∷ 0x10 ∷ 0x01 ∷ 0x00 ∷ []) ∷ []

-- ---- what a packet carries

-- an empty PDU while data waits
abbrev pub empty_while_data_waits : List Entry
empty_while_data_waits = second_slot ++ Air B 25 empty_with_more Pass Good ∷ []

-- SN and NESN stay 0 after an exchange
abbrev pub number_stays : List Entry
number_stays = data_sent ++ Air B 25 data_as_first Pass Good ∷ []

-- the packet of a PDU that no line announced
abbrev pub packet_without_line : List Entry
packet_without_line = second_slot ++ Air B 25 data_packet Pass Good ∷ []

-- a packet with other octets than its line
abbrev pub packet_otherwise : List Entry
packet_otherwise = data_sent ++ Air B 25 other_data Pass Good ∷ []

-- MD is 1 though nothing more waits
abbrev pub more_than_waits : List Entry
more_than_waits = data_sent ++ Air B 25 data_with_more Pass Good ∷ []

-- MD is 0 though a second packet of the host waits
abbrev pub less_than_waits : List Entry
less_than_waits = two_submitted ++ Air B 25 data_packet Pass Good ∷ []

-- the packet of a new PDU goes out on another channel than that of the event
abbrev pub another_channel : List Entry
another_channel = data_sent ++ Air B 24 data_on_another Pass Good ∷ []
