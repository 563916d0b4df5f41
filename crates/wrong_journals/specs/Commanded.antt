-- Journals of a link whose host gives commands and data, and that differ in one thing from what is due (Core 5.2, volume
-- 6 part B, sections 4.5.6, 4.5.9, 4.5.10 and 5.1).
use Rattle.std.specs.Prelude.{ℕ, List, [], ◌∷◌, ◌++◌, replicate}
use Rattle.ble_base.specs.declared.procedure_kinds.Kind.TheVariants.{Update, Version}
use Rattle.ble_base.specs.declared.roles.Role.TheVariants.{Central, Peripheral}
use Rattle.ble_base.specs.declared.roles.Side.TheVariants.{A, B}
use Rattle.ble_base.specs.declared.verdicts.Verdict.TheVariants.{Good}
use Rattle.journal.specs.declared.entries.Entry.{Entry}
use Rattle.journal.specs.declared.entries.Entry.TheVariants.{Air, Began, Done, Enter, Fed, Sent, Took, Up}
use Rattle.journal.specs.declared.entries.Mark.TheVariants.{Pass}
use Rattle.journal_pdus.specs.journal_controls.Rows.{begun_on}
use Rattle.journal_pdus.specs.link_model.Acknowledgement.{Pdu}
use Rattle.journal_pdus.specs.link_model.keyed_control.Keyed.{Keyed}
use Rattle.journal_pdus.specs.link_model.keyed_control.KeyedSteps.{Asks, Disconnects, Enters, keyed_after, keyed_after_all}
use Rattle.journal_pdus.specs.link_model.procedure_values.declared.asks.Ask.TheVariants.{Update as ask_update}
use Rattle.journal_pdus.specs.journal_acks.Rows.{data_heard, host_packet, more_packet, more_reply, second_slot}
use Rattle.journal_pdus.specs.journal_leaving.Rows.{terminate_packet, terminate_pdu}
use Rattle.journal_pdus.specs.journal_sending.Rows.{data_reply}
use Rattle.journal_pdus.specs.journal_sending.journal_fixing.Rows.{own_version}
use Rattle.journal_pdus.specs.journal_slots.Rows.{next_packet}
use Rattle.run_model.specs.Rows.{first_packet, first_reply, one_connection_journal, turn_entry}

-- ---- commands, on the first link of the host (volume 4 part E, sections 7.1.6, 7.1.23 and 7.8.18)

-- HCI_Disconnect with the error code 13
abbrev pub disconnect : List ℕ
disconnect = 0x01 ∷ 0x06 ∷ 0x04 ∷ 0x03 ∷ 0x00 ∷ 0x00 ∷ 0x13 ∷ []

-- HCI_Read_Remote_Version_Information
abbrev pub read_version : List ℕ
read_version = 0x01 ∷ 0x1D ∷ 0x04 ∷ 0x02 ∷ 0x00 ∷ 0x00 ∷ []

-- HCI_LE_Connection_Update: an interval of 48 slots, no latency and a timeout of 720 ms
abbrev pub update_connection : List ℕ
update_connection =
    0x01 ∷ 0x13 ∷ 0x20 ∷ 0x0E ∷ 0x00 ∷ 0x00 ∷ 0x30 ∷ 0x00 ∷ 0x30 ∷ 0x00 ∷ 0x00 ∷ 0x00 ∷ 0x48 ∷ 0x00 ∷ 0x00 ∷ 0x00
    ∷ 0x00 ∷ 0x00 ∷ []

-- HCI_Command_Status: the command with this opcode is accepted
abbrev pub accepted : (low high : ℕ) → List ℕ
accepted low high = 0x04 ∷ 0x0F ∷ 0x04 ∷ 0x00 ∷ 0x01 ∷ low ∷ high ∷ []

-- ---- the first event, which goes on in turn 3

-- these lines come in turn 1, and these before the packets of turn 2
abbrev pub event_after : (fed begun : List Entry) → List Entry
event_after fed begun =
    one_connection_journal ++ turn_entry 1 ∷ fed ++ turn_entry 2 ∷ Enter A 1 0 25 ∷ Enter B 1 0 25 ∷ begun

-- and this packet is the reply of the peripheral
abbrev pub slot_after : (fed begun : List Entry) (reply : List ℕ) → List Entry
slot_after fed begun reply =
    event_after fed begun ++ Air B 25 more_packet Pass Good ∷ Air A 25 reply Pass Good ∷ turn_entry 3 ∷ []

-- ---- pieces of data

-- a packet of a host of 28 octets, which starts a message
abbrev pub long_packet : List ℕ
long_packet = 0x02 ∷ 0x00 ∷ 0x00 ∷ 0x1C ∷ 0x00 ∷ replicate 28 0xAA

abbrev pub long_given : List Entry
long_given = slot_after (Fed B long_packet ∷ []) [] first_reply

-- it goes as one piece, of more octets than the effective length
abbrev pub piece_too_long : List Entry
piece_too_long = long_given ++ Sent B 1 1 2 (replicate 28 0xAA) ∷ []

-- its first piece has less
abbrev pub piece_too_short : List Entry
piece_too_short = long_given ++ Sent B 1 1 2 (replicate 26 0xAA) ∷ []

-- ---- an exchange of versions

-- the host of the central asks for it, and gives this
abbrev pub version_asked : List ℕ → List Entry
version_asked more = Fed B (read_version ++ more) ∷ Up B (accepted 0x1D 0x04) ∷ []

abbrev pub version_with : List ℕ → List Entry
version_with more = slot_after (version_asked more) (Began B 1 Version ∷ []) first_reply

-- MD is 0 in the first packet of the central, though LL_VERSION_IND waits
abbrev pub version_untold : List Entry
version_untold = event_after (version_asked []) (Began B 1 Version ∷ []) ++ Air B 25 first_packet Pass Good ∷ []

-- its next packet has a new empty PDU
abbrev pub empty_before_control : List Entry
empty_before_control = version_with [] ++ Air B 25 next_packet Pass Good ∷ []

-- data goes before LL_VERSION_IND
abbrev pub data_before_control : List Entry
data_before_control = version_with (host_packet 0xAA) ++ Sent B 1 1 2 (0xAA ∷ []) ∷ []

-- the packet of LL_VERSION_IND of the central in turn 3, on data channel 25, with SN 1, NESN 1 and MD 0
abbrev pub version_packet : List ℕ
version_packet =
    0x29 ∷ 0x41 ∷ 0x76 ∷ 0x71 ∷ 0x5E ∷ 0xFC ∷ 0x26 ∷ 0xBF ∷ 0x18 ∷ 0x2B ∷ 0x0D ∷ 0xB6 ∷ 0x60 ∷ 0x72 ∷ 0xF4 ∷ []

-- the peripheral takes it
abbrev pub version_to_answer : List Entry
version_to_answer =
    version_with [] ++ Sent B 1 1 own_version.llid own_version.body ∷ Air B 25 version_packet Pass Good
    ∷ Took A 1 1 own_version.llid own_version.body ∷ []

-- the peripheral before that
abbrev pub peripheral_entered : Keyed
peripheral_entered = keyed_after (Enters 2) (begun_on Peripheral)

-- its reply, an empty PDU with SN 1 and NESN 0, has MD 1 for the LL_VERSION_IND that it has queued just now
abbrev pub reply_with_more : List ℕ
reply_with_more = 0x29 ∷ 0x41 ∷ 0x76 ∷ 0x71 ∷ 0x48 ∷ 0xFA ∷ 0x34 ∷ 0xF3 ∷ 0x50 ∷ []

abbrev pub answer_counted : List Entry
answer_counted = version_to_answer ++ Air A 25 reply_with_more Pass Good ∷ []

-- ---- the host of the central ends the link

abbrev pub disconnecting_with : (more : List ℕ) (given : List Entry) (reply : List ℕ) → List Entry
disconnecting_with more given reply =
    slot_after (given ++ Fed B (more ++ disconnect) ∷ Up B (accepted 0x06 0x04) ∷ []) [] reply

abbrev pub disconnect_going : Keyed
disconnect_going = keyed_after_all (Disconnects (record { 0 = 0x13 }) ∷ Enters 2 ∷ []) (begun_on Central)

-- data that the host gave before goes all the same
abbrev pub data_after_disconnect : List Entry
data_after_disconnect = disconnecting_with (host_packet 0xAA) [] first_reply ++ Sent B 1 1 2 (0xAA ∷ []) ∷ []

-- LL_TERMINATE_IND is acknowledged by a PDU of data of the peripheral, whose host gave that
abbrev pub terminate_done : List Entry
terminate_done =
    disconnecting_with [] (Fed A (host_packet 0xAA) ∷ []) more_reply
    ++ Sent B 1 1 terminate_pdu.llid terminate_pdu.body ∷ Air B 25 terminate_packet Pass Good
    ∷ Took A 1 1 terminate_pdu.llid terminate_pdu.body ∷ Sent A 1 1 2 (0xAA ∷ []) ∷ Air A 25 data_reply Pass Good ∷ []

-- the central takes that PDU
abbrev pub taken_after_terminate : List Entry
taken_after_terminate = terminate_done ++ Took B 1 1 2 (0xAA ∷ []) ∷ []

-- ---- an update of the connection

-- LL_CONNECTION_UPDATE_IND with this interval, from this event on (section 2.4.2.1)
abbrev pub update_pdu : (interval instant : ℕ) → Pdu
update_pdu interval instant = record {
  llid = 3;
  body =
      0x00 ∷ 0x01 ∷ 0x00 ∷ 0x00 ∷ interval ∷ 0x00 ∷ 0x00 ∷ 0x00 ∷ 0x48 ∷ 0x00 ∷ instant ∷ 0x00 ∷ [];
}

-- the host of the central asks for it
abbrev pub update_given : List Entry
update_given =
    slot_after (Fed B update_connection ∷ Up B (accepted 0x13 0x20) ∷ []) (Began B 1 Update ∷ []) first_reply

abbrev pub update_going : Keyed
update_going = keyed_after_all (Asks (ask_update 48 0 72) ∷ Enters 2 ∷ []) (begun_on Central)

-- this PDU is sent after these entries
abbrev pub sent_after : List Entry → Pdu → List Entry
sent_after front pdu = front ++ Sent B 1 1 pdu.llid pdu.body ∷ []

-- with another interval than the host gave
abbrev pub update_otherwise : List Entry
update_otherwise = sent_after update_given (update_pdu 0x31 0x06)

-- with an instant that is too near
abbrev pub update_too_near : List Entry
update_too_near = sent_after update_given (update_pdu 0x30 0x05)

-- with no command
abbrev pub update_unasked : List Entry
update_unasked = sent_after second_slot (update_pdu 0x30 0x06)

-- ---- a PDU is taken late

-- after an event to the host
abbrev pub taken_after_event : List Entry
taken_after_event = data_heard ++ Up A (0x04 ∷ 0x10 ∷ 0x01 ∷ 0x00 ∷ []) ∷ Took A 1 1 2 (0xAA ∷ []) ∷ []

-- after the line that a procedure is done on another link
abbrev pub taken_after_done : List Entry
taken_after_done = data_heard ++ Done A 2 Version ∷ Took A 1 1 2 (0xAA ∷ []) ∷ []
