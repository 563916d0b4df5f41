-- The journals and the ends of worked examples.
use Rattle.std.specs.Prelude.{ℕ, List, [], ◌∷◌, ◌++◌}
use Rattle.ble_base.specs.declared.roles.Role.TheVariants.{Peripheral}
use Rattle.ble_base.specs.declared.roles.Side.TheVariants.{A}
use Rattle.ble_base.specs.declared.verdicts.Verdict.TheVariants.{Good}
use Rattle.journal.specs.declared.entries.Entry.{Entry}
use Rattle.journal.specs.declared.entries.Entry.TheVariants.{Air, Fed, Opened, Sent, Took}
use Rattle.journal.specs.declared.entries.Mark.TheVariants.{Pass as Passed}
use Rattle.journal_leaving.specs.journal_acks.Rows.{data_pdu, data_sent, host_packet}
use Rattle.journal_leaving.specs.run_model.Rows.{turn_entry}
use Rattle.journal_fixing.specs.Rows.{version_heard}
use Rattle.journal_fixing.specs.journal_controls.Rows.{begun_on, version_pdu}
use Rattle.journal_fixing.specs.link_model.Controls.{read_of}
use Rattle.journal_fixing.specs.link_model.Facts.{no_response}
use Rattle.journal_fixing.specs.link_model.keyed_control.Keyed.{Keyed}
use Rattle.journal_fixing.specs.link_model.keyed_control.KeyedSteps.{Enters, Takes, keyed_after_all}
use Rattle.journal_fixing.specs.link_model.phased_end.Taking.{drawn}
use Rattle.journal_leaving.specs.Rows.{terminate_taken}

-- the peripheral has taken LL_VERSION_IND in turn 3, and is to answer that with its own (Core 5.2, volume 6 part B,
-- section 5.1.5)
abbrev pub version_owed : Keyed
version_owed = keyed_after_all (Enters 2 ∷ Takes (read_of version_pdu) 3 (drawn no_response) ∷ []) (begun_on Peripheral)

-- its host gives a packet in the next turn
abbrev pub data_too : List Entry
data_too = version_heard ++ turn_entry 4 ∷ Fed A (host_packet 0xAA) ∷ []

-- a PDU of data of the peripheral, with SN 1, NESN 0 and MD 0, on data channel 25
abbrev pub data_reply : List ℕ
data_reply = 0x29 ∷ 0x41 ∷ 0x76 ∷ 0x71 ∷ 0x5B ∷ 0xFB ∷ 0x80 ∷ 0xAE ∷ 0x93 ∷ 0x52 ∷ []

-- it acknowledges LL_TERMINATE_IND of the central
abbrev pub terminate_answered : List Entry
terminate_answered =
    terminate_taken ++ Sent A 1 1 data_pdu.llid data_pdu.body ∷ Air A 25 data_reply Passed Good ∷ []

-- the peripheral has taken seven PDUs of data on another link, and its host has received none of them
abbrev pub seven_wait : List Entry
seven_wait =
    data_sent ++ Opened A 2 1 Peripheral ∷ Took A 2 1 2 (0xAA ∷ []) ∷ Took A 2 2 2 (0xAA ∷ []) ∷ Took A 2 3 2 (0xAA ∷ [])
    ∷ Took A 2 4 2 (0xAA ∷ []) ∷ Took A 2 5 2 (0xAA ∷ []) ∷ Took A 2 6 2 (0xAA ∷ []) ∷ Took A 2 7 2 (0xAA ∷ []) ∷ []

abbrev pub eight_wait : List Entry
eight_wait = seven_wait ++ Took A 2 8 2 (0xAA ∷ []) ∷ []
