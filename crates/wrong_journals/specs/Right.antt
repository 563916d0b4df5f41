-- The streams and schedules of small runs whose journals are right.
use Rattle.std.specs.Prelude.{ℕ, true, List, [], ◌∷◌, ◌++◌}
use Rattle.ble_base.specs.declared.Config.{Config}
use Rattle.ble_base.specs.declared.roles.Side.TheVariants.{A, B}
use Rattle.ble_base.specs.declared.verdicts.Verdict.TheVariants.{Good}
use Rattle.journal.specs.declared.entries.Entry.{Entry}
use Rattle.journal.specs.declared.entries.Entry.TheVariants.{Air, Shut, Took, Up}
use Rattle.journal.specs.declared.entries.Mark.TheVariants.{Pass}
use Rattle.journal_pdus.specs.controller_model.Rows.{address_a, address_b}
use Rattle.radio_replay.specs.Script.{Script, Turn}
use Rattle.radio_replay.specs.declared.fates.Fate.{Fate}
use Rattle.run_model.specs.Rows.{connecting_octets, enabling_octets, reset}
use Rattle.journal_pdus.specs.journal_acks.Rows.{host_packet, reply_packet}
use Rattle.journal_pdus.specs.journal_hosts.CreditRows.{both_taken, data_up as octet_up}
use Rattle.wrong_journals.specs.Commanded.{disconnect, read_version, sent_after, terminate_done, update_connection, update_given, update_pdu, version_to_answer}
use Rattle.wrong_journals.specs.Exchanges.{first_taken}
use Rattle.wrong_journals.specs.Hosts.{credit, data_up}

-- a side with this public address and this random word
abbrev pub config_with : List ℕ → ℕ → Config
config_with public word = record { public = public; cursor = 0x71764129; words = record { items = word ∷ [] } }

-- a turn with both radios on, in which A and B are fed these numbers of octets, with these fates
abbrev pub turn_with : ℕ → ℕ → List Fate → Turn
turn_with feed_a feed_b fates = record { a_on = true; b_on = true; feed_a = feed_a; feed_b = feed_b; fates = fates }

abbrev pub script_with : List Turn → Script
script_with turns = record { a = config_with address_a 1; b = config_with address_b 2; turns = turns }

-- ---- before hosts use a link

-- A is reset in the second of two turns
abbrev pub first_script : Script
first_script = script_with (turn_with 0 0 [] ∷ turn_with 4 0 [] ∷ [])

-- A advertises and B scans, with this fate of the advertisement
abbrev pub advertising_script : List Fate → Script
advertising_script fates = script_with (turn_with 24 18 fates ∷ [])

-- a link opens
abbrev pub opening_script : Script
opening_script = script_with (turn_with 5 29 [] ∷ [])

-- and has its first event
abbrev pub event_script : Script
event_script = script_with (turn_with 5 29 [] ∷ turn_with 0 0 [] ∷ turn_with 0 0 [] ∷ [])

-- ---- data: in turn 1 hosts give a packet of the octet AA, and the link has two turns after that

abbrev pub sending_octets : List ℕ
sending_octets = connecting_octets ++ host_packet 0xAA

-- the host of the central
abbrev pub data_script : Script
data_script = script_with (turn_with 5 29 [] ∷ turn_with 0 6 [] ∷ turn_with 0 0 [] ∷ turn_with 0 0 [] ∷ [])

-- which gives another packet, of the octet BB, in turn 3
abbrev pub more_octets : List ℕ
more_octets = sending_octets ++ host_packet 0xBB

abbrev pub more_script : Script
more_script = script_with (turn_with 5 29 [] ∷ turn_with 0 6 [] ∷ turn_with 0 0 [] ∷ turn_with 0 6 [] ∷ [])

abbrev pub more_settled : List Entry
more_settled = first_taken ++ Air A 25 reply_packet Pass Good ∷ data_up ∷ credit ∷ []

-- both hosts
abbrev pub answering_octets : List ℕ
answering_octets = enabling_octets ++ host_packet 0xAA

abbrev pub both_script : Script
both_script = script_with (turn_with 5 29 [] ∷ turn_with 6 6 [] ∷ turn_with 0 0 [] ∷ turn_with 0 0 [] ∷ [])

abbrev pub both_settled : List Entry
both_settled = both_taken ++ Up B octet_up ∷ credit ∷ []

-- ---- an exchange of versions: in turn 1 the host of the central asks for it, and the link has two turns after that

abbrev pub asking_octets : List ℕ
asking_octets = connecting_octets ++ read_version

abbrev pub asking_script : Script
asking_script = script_with (turn_with 5 29 [] ∷ turn_with 0 6 [] ∷ turn_with 0 0 [] ∷ turn_with 0 0 [] ∷ [])

abbrev pub version_replied : List Entry
version_replied = version_to_answer ++ Air A 25 reply_packet Pass Good ∷ []

-- ---- an update of the connection, for which it asks in the same way

abbrev pub updating_octets : List ℕ
updating_octets = connecting_octets ++ update_connection

abbrev pub updating_script : Script
updating_script = script_with (turn_with 5 29 [] ∷ turn_with 0 18 [] ∷ turn_with 0 0 [] ∷ turn_with 0 0 [] ∷ [])

-- the packet of LL_CONNECTION_UPDATE_IND in turn 3, with SN 1, NESN 1 and MD 0
abbrev pub update_packet : List ℕ
update_packet =
    0x29 ∷ 0x41 ∷ 0x76 ∷ 0x71 ∷ 0x5E ∷ 0xF6 ∷ 0x2A ∷ 0xB5 ∷ 0xE7 ∷ 0xD4 ∷ 0x3C ∷ 0xB6 ∷ 0x2E ∷ 0x26 ∷ 0x4A ∷ 0xC9 ∷ 0xF4 ∷ 0x0E ∷ 0xC4 ∷ 0xA9 ∷ 0x83 ∷ []

abbrev pub update_taken : List Entry
update_taken =
    sent_after update_given (update_pdu 0x30 0x06) ++ Air B 25 update_packet Pass Good
    ∷ Took A 1 1 (update_pdu 0x30 0x06).llid (update_pdu 0x30 0x06).body ∷ Air A 25 reply_packet Pass Good ∷ []

-- ---- the host of the central ends the link in turn 1, in which that of the peripheral gives a packet of the octet AA

abbrev pub giving_octets : List ℕ
giving_octets = enabling_octets ++ host_packet 0xAA

abbrev pub ending_octets : List ℕ
ending_octets = connecting_octets ++ disconnect

abbrev pub ending_script : Script
ending_script = script_with (turn_with 5 29 [] ∷ turn_with 6 7 [] ∷ turn_with 0 0 [] ∷ turn_with 0 0 [] ∷ [])

-- HCI_Disconnection_Complete with this reason
abbrev pub disconnected : ℕ → List ℕ
disconnected reason = 0x04 ∷ 0x05 ∷ 0x04 ∷ 0x00 ∷ 0x00 ∷ 0x00 ∷ reason ∷ []

abbrev pub both_shut : List Entry
both_shut =
    terminate_done ++ Shut A 1 (record { 0 = 0x13 }) ∷ Up A (disconnected 0x13) ∷ Shut B 1 (record { 0 = 0x16 })
    ∷ Up B (disconnected 0x16) ∷ []

-- ---- the host of the peripheral resets its controller in turn 1

abbrev pub resetting_octets : List ℕ
resetting_octets = enabling_octets ++ reset

abbrev pub reset_script : Script
reset_script = script_with (turn_with 5 29 [] ∷ turn_with 4 0 [] ∷ [])
