-- The ends, the data and the journals of worked examples.
use Rattle.std.specs.Prelude.{ℕ, true, List, [], ◌∷◌, ◌++◌, replicate}
use Rattle.ble_base.specs.declared.roles.Role.TheVariants.{Central, Peripheral}
use Rattle.ble_base.specs.declared.roles.Side.TheVariants.{A}
use Rattle.acl_banks.specs.Packets.{new_packet}
use Rattle.data_pdu.specs.declared.ctrl.Ctrl.TheVariants.{LengthReq, PeripheralFeatureReq}
use Rattle.data_pdu.specs.declared.ctrl.CtrlRead.TheVariants.{Known}
use Rattle.journal.specs.declared.entries.Entry.{Entry}
use Rattle.journal.specs.declared.entries.Entry.TheVariants.{Took}
use Rattle.journal_controls.specs.Rows.{begun_on, version_asked, version_pdu}
use Rattle.journal_controls.specs.journal_acks.Rows.{data_heard}
use Rattle.journal_controls.specs.link_model.Acknowledgement.{Pdu}
use Rattle.journal_controls.specs.link_model.Data.{Data, first_data}
use Rattle.journal_controls.specs.link_model.Facts.{no_response}
use Rattle.journal_controls.specs.link_model.enc_phase.declared.facts.PhaseFacts.TheVariants.{HalfKeyed}
use Rattle.journal_controls.specs.link_model.keyed_control.Keyed.{Keyed}
use Rattle.journal_controls.specs.link_model.keyed_control.KeyedSteps.{Asks, Disconnects, Enters, Sends, Takes, keyed_after}
use Rattle.journal_controls.specs.link_model.phased_end.Taking.{drawn}
use Rattle.journal_controls.specs.link_model.procedure_values.declared.asks.Ask.TheVariants.{Length}
use Rattle.journal_fixing.specs.NextPdu.{piece_limit}

-- the exchange of versions begins with the event in turn 2
abbrev pub version_begun : Keyed
version_begun = keyed_after (Enters 2) version_asked

-- a central in a phase that is not Clear or Secure
abbrev pub not_quiet : Keyed
not_quiet =
    let k = begun_on Central in
    record k { phased = record k.phased { phase = HalfKeyed } }

-- LL_VERSION_IND of this controller (Core 5.2, volume 6 part B, section 2.4.2.13; the sub-version is our choice)
abbrev pub own_version : Pdu
own_version = record { llid = 3; body = 0x0C ∷ 0x0B ∷ 0xFF ∷ 0xFF ∷ 0x01 ∷ 0x00 ∷ [] }

-- it takes LL_PERIPHERAL_FEATURE_REQ, and is to answer that with LL_FEATURE_RSP (section 5.1.4)
abbrev pub two_waiting : Keyed
two_waiting = keyed_after (Takes (Known (PeripheralFeatureReq 0)) 2 (drawn no_response)) version_begun

-- the host of a peripheral lets its payloads have 251 octets
abbrev pub long_allowed : Keyed
long_allowed = keyed_after (Asks (Length 251)) (begun_on Peripheral)

-- it takes LL_LENGTH_REQ of a central that receives and sends 251 octets in 2120 µs (section 5.1.9)
abbrev pub length_taken : Keyed
length_taken = keyed_after (Takes (Known (LengthReq 251 2120 251 2120)) 2 (drawn no_response)) long_allowed

-- the host gave a message of 28 octets, cut as this end has it
abbrev pub octets_given : ℕ → List ℕ
octets_given count = replicate count 0xAA

abbrev pub message_cut : Keyed → Data
message_cut k = record first_data { packets = new_packet 0 true (octets_given 28) ∷ []; limit = piece_limit k }

abbrev pub message_pdu : ℕ → Pdu
message_pdu count = record { llid = 2; body = octets_given count }

-- the host of a central ends the link with Remote User Terminated Connection, and LL_TERMINATE_IND is sent
abbrev pub link_ended : Keyed
link_ended = keyed_after (Disconnects (record { 0 = 0x13 })) (begun_on Central)

abbrev pub end_sent : Keyed
end_sent = keyed_after (Sends 2) link_ended

-- LL_TERMINATE_IND with that code (section 2.4.2.3)
abbrev pub terminate_pdu : Pdu
terminate_pdu = record { llid = 3; body = 0x02 ∷ 0x13 ∷ [] }

-- the peripheral hears a packet of the central in turn 3, and takes LL_VERSION_IND
abbrev pub version_heard : List Entry
version_heard = data_heard ++ Took A 1 1 version_pdu.llid version_pdu.body ∷ []
