-- Journals in which the two ends of a link enter an event in two ways, or follow two indications (Core 5.2, volume 6
-- part B, sections 4.5.1, 4.5.8 and 5.5).
use Rattle.std.specs.Prelude.{List, [], ◌∷◌, ◌++◌}
use Rattle.ble_base.specs.declared.roles.Side.TheVariants.{A, B}
use Rattle.journal.specs.declared.entries.Entry.{Entry}
use Rattle.journal.specs.declared.entries.Entry.TheVariants.{Applied, Enter, Sent, Took}
use Rattle.journal_pdus.specs.journal_controls.link_model.Acknowledgement.{Pdu}
use Rattle.journal_pdus.specs.journal_acks.Rows.{second_slot}
use Rattle.run_model.specs.Rows.{turn_entry}
use Rattle.wrong_journals.specs.Events.{turns_before_first}
use Rattle.wrong_journals.specs.ProcedureLines.{map_pdu}

-- ---- event 0, in which no indication is in force

-- the central enters it on another channel than the peripheral
abbrev pub on_two_channels : List Entry
on_two_channels = turns_before_first ++ Enter A 1 0 25 ∷ Enter B 1 0 26 ∷ []

-- and one turn after it
abbrev pub in_two_turns : List Entry
in_two_turns = turns_before_first ++ Enter A 1 0 25 ∷ turn_entry 3 ∷ Enter B 1 0 25 ∷ []

-- ---- an indication of the central that the peripheral takes as another one

-- all data channels but 35 and 36, from event 6 on
abbrev pub other_map_pdu : Pdu
other_map_pdu = record { llid = 3; body = 0x01 ∷ 0xFF ∷ 0xFF ∷ 0xFF ∷ 0xFF ∷ 0x07 ∷ 0x06 ∷ 0x00 ∷ [] }

-- the central sends a map, and the peripheral takes that one
abbrev pub map_mistaken : List Entry
map_mistaken =
    second_slot ++ Sent B 1 1 map_pdu.llid map_pdu.body ∷ Took A 1 1 other_map_pdu.llid other_map_pdu.body ∷ []

-- each end enters event 6 with the map that it knows
abbrev pub with_two_maps : List Entry
with_two_maps =
    map_mistaken ++ Applied A 1 1 6 ∷ Enter A 1 6 23 ∷ Applied B 1 1 6 ∷ Enter B 1 6 23 ∷ []

-- the peripheral lets it hold
abbrev pub following_another : List Entry
following_another = map_mistaken ++ Applied A 1 1 6 ∷ Enter A 1 6 23 ∷ []
