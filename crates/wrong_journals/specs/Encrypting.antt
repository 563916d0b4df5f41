-- Journals of a link whose host asks for encryption, and that differ in one thing from what is due (Core 5.2, volume 6
-- part B, section 5.1.3.1, and volume 4 part E, section 7.8.24).
use Rattle.std.specs.Prelude.{ℕ, List, [], ◌∷◌, ◌++◌, replicate, Option, Some, None}
use Rattle.ble_base.specs.ErrorCodes.{mic_failure}
use Rattle.ble_base.specs.declared.procedure_kinds.Kind.TheVariants.{Encrypt}
use Rattle.ble_base.specs.declared.roles.Role.TheVariants.{Central}
use Rattle.ble_base.specs.declared.roles.Side.TheVariants.{A, B}
use Rattle.ble_base.specs.declared.verdicts.Verdict.TheVariants.{Good}
use Rattle.journal.specs.declared.entries.Entry.{Entry}
use Rattle.journal.specs.declared.entries.Entry.TheVariants.{Air, Began, Enter, Fed, Sent, Shut, Took, Up}
use Rattle.journal.specs.declared.entries.Mark.TheVariants.{Pass}
use Rattle.journal_pdus.specs.journal_acks.Rows.{host_packet, reply_packet, second_slot}
use Rattle.journal_pdus.specs.journal_controls.Rows.{begun_on}
use Rattle.journal_pdus.specs.link_model.Acknowledgement.{Pdu}
use Rattle.journal_pdus.specs.link_model.keyed_control.Keyed.{Keyed}
use Rattle.run_model.specs.Rows.{first_reply, one_event_journal, turn_entry}
use Rattle.wrong_journals.specs.Commanded.{accepted, sent_after, slot_after}
use Rattle.wrong_journals.specs.Events.{turn_entries}

-- ---- LL_ENC_REQ

-- HCI_LE_Enable_Encryption of the first link, with a random number, an EDIV and a key of zeros
abbrev pub enable_encryption : List ℕ
enable_encryption = 0x01 ∷ 0x19 ∷ 0x20 ∷ 0x1C ∷ replicate 28 0x00

-- HCI_Set_Event_Mask with all bits, and its Command Complete: so the host of the peripheral is asked for a key (volume 4
-- part E, section 7.3.1)
abbrev pub mask_set : List Entry
mask_set =
    Fed A (0x01 ∷ 0x01 ∷ 0x0C ∷ 0x08 ∷ replicate 8 0xFF)
    ∷ Up A (0x04 ∷ 0x0E ∷ 0x04 ∷ 0x01 ∷ 0x01 ∷ 0x0C ∷ 0x00 ∷ []) ∷ []

-- the host of the central gives that command, and the event goes on in turn 3
abbrev pub encryption_given : List Entry
encryption_given =
    slot_after (mask_set ++ Fed B enable_encryption ∷ Up B (accepted 0x19 0x20) ∷ []) (Began B 1 Encrypt ∷ [])
    first_reply

-- LL_ENC_REQ with this first octet of the half of the session key, and 22 as the first one of the half of the
-- initialization vector (volume 6 part B, section 2.4.2.4)
abbrev pub enc_req : ℕ → Pdu
enc_req octet = record {
  llid = 3;
  body = 0x03 ∷ replicate 10 0x00 ++ octet ∷ replicate 7 0x00 ++ 0x22 ∷ 0x00 ∷ 0x00 ∷ 0x00 ∷ [];
}

-- its side draws another half
abbrev pub halves_otherwise : List Entry
halves_otherwise = sent_after encryption_given (enc_req 0x12)

-- its host gave no command
abbrev pub encryption_unasked : List Entry
encryption_unasked = sent_after second_slot (enc_req 0x11)

-- ---- data while the central waits for LL_ENC_RSP

-- the packet of LL_ENC_REQ in turn 3, on data channel 25, with SN 1, NESN 1 and MD 0
abbrev pub enc_req_packet : List ℕ
enc_req_packet =
    0x29 ∷ 0x41 ∷ 0x76 ∷ 0x71 ∷ 0x5E ∷ 0xED ∷ 0x29 ∷ 0xB4 ∷ 0xE7 ∷ 0xD4 ∷ 0x0C ∷ 0xB6 ∷ 0x2E ∷ 0x26 ∷ 0x02 ∷ 0xC9
    ∷ 0xF2 ∷ 0x1F ∷ 0x7F ∷ 0xDC ∷ 0x28 ∷ 0x7D ∷ 0x15 ∷ 0xDA ∷ 0x73 ∷ 0x48 ∷ 0x06 ∷ 0x5B ∷ 0x17 ∷ 0xC6 ∷ 0x87 ∷ 0x98
    ∷ []

-- the peripheral takes it, and asks its host for a key (volume 4 part E, section 7.7.65.5); its reply acknowledges it
abbrev pub key_asked : List Entry
key_asked =
    sent_after encryption_given (enc_req 0x11)
    ++ Air B 25 enc_req_packet Pass Good ∷ Took A 1 1 (enc_req 0x11).llid (enc_req 0x11).body
    ∷ Up A (0x04 ∷ 0x3E ∷ 0x0D ∷ 0x05 ∷ replicate 12 0x00) ∷ Air A 25 reply_packet Pass Good ∷ []

-- the host of the central gives data before the next event, which is in turn 26
abbrev pub data_given : List Entry
data_given =
    key_asked ++ turn_entry 4 ∷ Fed B (host_packet 0xAA) ∷ turn_entries 5 22 ++ Enter A 1 1 20 ∷ Enter B 1 1 20 ∷ []

-- and the data goes
abbrev pub data_while_asking : List Entry
data_while_asking = data_given ++ Sent B 1 2 2 (0xAA ∷ []) ∷ []

-- ---- a link that is shut with 3D

-- though its side judged no packet of it forged
abbrev pub shut_unforged : List Entry
shut_unforged = one_event_journal ++ Shut A 1 (record { 0 = mic_failure }) ∷ []

-- ---- an end that the lines give

abbrev pub end_or_begun : Option Keyed → Keyed
end_or_begun None = begun_on Central
end_or_begun (Some end) = end
