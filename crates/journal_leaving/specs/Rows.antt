-- The journal of a link that its central ends, and an end of which the host is asked for a key, as worked examples have
-- them.
use Rattle.std.specs.Prelude.{ℕ, true, List, [], ◌∷◌, ◌++◌, Option, Some}
use Rattle.ble_base.specs.declared.roles.Role.TheVariants.{Peripheral}
use Rattle.ble_base.specs.declared.roles.Side.TheVariants.{A, B}
use Rattle.ble_base.specs.declared.verdicts.Verdict.TheVariants.{Good}
use Rattle.journal.specs.declared.entries.Entry.{Entry}
use Rattle.journal.specs.declared.entries.Entry.TheVariants.{Air, Sent, Took}
use Rattle.journal.specs.declared.entries.Mark.TheVariants.{Pass as Passed}
use Rattle.journal_controls.specs.Rows.{begun_on, version_wanted}
use Rattle.journal_controls.specs.journal_acks.Rows.{reply_packet, second_slot}
use Rattle.journal_controls.specs.journal_links.Begun.{link_numbered}
use Rattle.journal_controls.specs.link_model.Acknowledgement.{Pdu}
use Rattle.journal_controls.specs.link_model.Controls.{read_of}
use Rattle.journal_controls.specs.link_model.Facts.{no_response, stays}
use Rattle.journal_controls.specs.link_model.control_model.Control.{Control, Enters, Sends, after_all}
use Rattle.journal_controls.specs.link_model.enc_phase.declared.facts.PhaseFacts.{PhaseFacts}
use Rattle.journal_controls.specs.link_model.keyed_control.Keyed.{Keyed}
use Rattle.journal_controls.specs.link_model.keyed_control.KeyedSteps.{Takes, keyed_after}
use Rattle.journal_controls.specs.link_model.phased_end.Taking.{drawn}
use Rattle.journal_controls.specs.run_model.Rows.{one_connection_journal}
use Rattle.journal_leaving.specs.Reasons.{due_with}

-- LL_TERMINATE_IND with the error code 13 (Core 5.2, volume 6 part B, section 2.4.2.3)
abbrev pub terminate_pdu : Pdu
terminate_pdu = record { llid = 3; body = 0x02 ∷ 0x13 ∷ [] }

-- the packet of it, after the first exchange of the link
abbrev pub terminate_packet : List ℕ
terminate_packet =
    0x29 ∷ 0x41 ∷ 0x76 ∷ 0x71 ∷ 0x5E ∷ 0xF8 ∷ 0x28 ∷ 0xA7 ∷ 0xAE ∷ 0x0C ∷ 0xB9 ∷ []

-- the central sends it in turn 3, and it reaches the peripheral
abbrev pub terminate_heard : List Entry
terminate_heard =
    second_slot ++ Sent B 1 1 terminate_pdu.llid terminate_pdu.body ∷ Air B 25 terminate_packet Passed Good ∷ []

-- which takes it
abbrev pub terminate_taken : List Entry
terminate_taken = terminate_heard ++ Took A 1 1 terminate_pdu.llid terminate_pdu.body ∷ []

-- and acknowledges it
abbrev pub terminate_acknowledged : List Entry
terminate_acknowledged = terminate_taken ++ Air A 25 reply_packet Passed Good ∷ []

-- the control part of the central of the link in one_connection_journal, whose host asked for an exchange of versions,
-- once LL_VERSION_IND was sent in slot 3
abbrev pub version_asked : Control
version_asked = after_all (Enters 2 true ∷ Sends 3 true ∷ []) version_wanted

-- the reason for which that link is to end in a slot, where a packet was heard in slot 32000
abbrev pub due_unanswered : ℕ → Option ℕ
due_unanswered slot =
    due_with (link_numbered 1 one_connection_journal) (Some version_asked) (Some stays) (Some 32000) slot

-- LL_ENC_REQ with a Rand and an EDIV of 0, and with an SKDm and an IVm (section 2.4.2.4)
abbrev pub key_pdu : Pdu
key_pdu = record {
  llid = 3;
  body =
      0x03 ∷ 0x00 ∷ 0x00 ∷ 0x00 ∷ 0x00 ∷ 0x00 ∷ 0x00 ∷ 0x00 ∷ 0x00 ∷ 0x00 ∷ 0x00 ∷ 0x01 ∷ 0x02 ∷ 0x03 ∷ 0x04 ∷ 0x05
      ∷ 0x06 ∷ 0x07 ∷ 0x08 ∷ 0x11 ∷ 0x12 ∷ 0x13 ∷ 0x14 ∷ [];
}

-- the peripheral takes it in turn 3, and the masks of a start withhold the request from its host
abbrev pub key_taken : List Entry
key_taken = second_slot ++ Took A 1 1 key_pdu.llid key_pdu.body ∷ []

-- a peripheral that takes it in a phase, and of which the host is asked then
abbrev pub key_asked : PhaseFacts → Keyed
key_asked phase =
    let k = begun_on Peripheral in
    keyed_after (Takes (read_of key_pdu) 3 (drawn no_response))
    (record k { phased = record k.phased { phase = phase }; end = record k.end { phase = phase } })

-- the reason for which that peripheral is to end in a slot, where its host lacked the key after a pause in slot 7, and a
-- packet was heard in slot 500
abbrev pub due_lacking : PhaseFacts → ℕ → Option ℕ
due_lacking phase slot =
    due_with (link_numbered 1 one_connection_journal) (Some (key_asked phase).phased.control)
    (Some (record stays { disconnected = Some 7 })) (Some 500) slot
