-- The link of a small run, and links of journals in which a side does not offer channel selection algorithm #2.
use Rattle.std.specs.Prelude.{true, false, ℕ, List, [], ◌∷◌, ◌++◌}
use Rattle.ble_base.specs.declared.roles.Side.TheVariants.{A, B}
use Rattle.ble_base.specs.declared.verdicts.Verdict.TheVariants.{Good}
use Rattle.journal.specs.declared.entries.Entry.{Entry}
use Rattle.journal.specs.declared.entries.Entry.TheVariants.{Air, Applied, Enter, Sent, Took}
use Rattle.journal.specs.declared.entries.Mark.TheVariants.{Pass as Passed}
use Rattle.run_laws.specs.Rows.{one_event_fields}
use Rattle.run_laws.specs.run_model.Rows.{connect_packet, connectable_packet, turn_entry}
use Rattle.link_changes.specs.Worked.{update_octets}
use Rattle.journal_links.specs.Begun.{LinkBegun}

-- B sent its CONNECT_IND in turn 0, and both sides offer channel selection algorithm #2
abbrev pub one_link : LinkBegun
one_link = record { central = B; slot = 0; fields = one_event_fields; two = true }

-- the same link where one side does not
abbrev pub hopping_link : LinkBegun
hopping_link = record one_link { two = false }

-- the ADV_IND of A, with ChSel 0
abbrev pub unoffered_packet : List ℕ
unoffered_packet =
    0xD6 ∷ 0xBE ∷ 0x89 ∷ 0x8E ∷ 0x8D ∷ 0xD4 ∷ 0x5D ∷ 0xA1 ∷ 0x3D ∷ 0x49 ∷ 0x99 ∷ 0x70 ∷ 0xC5 ∷ 0x7A ∷ 0xF8 ∷ []

-- the CONNECT_IND of B, with ChSel 0
abbrev pub unaccepted_packet : List ℕ
unaccepted_packet =
    0xD6 ∷ 0xBE ∷ 0x89 ∷ 0x8E ∷ 0x88 ∷ 0xF0 ∷ 0x5C ∷ 0xA1 ∷ 0x3D ∷ 0x49 ∷ 0x99 ∷ 0x70 ∷ 0x7F ∷ 0x31 ∷ 0x11
    ∷ 0xA6 ∷ 0x69 ∷ 0xB7 ∷ 0xD1 ∷ 0xA2 ∷ 0x30 ∷ 0x98 ∷ 0xA9 ∷ 0xD0 ∷ 0x9E ∷ 0x52 ∷ 0x33 ∷ 0xD8 ∷ 0xA2 ∷ 0x98
    ∷ 0x08 ∷ 0x24 ∷ 0x83 ∷ 0x3B ∷ 0x03 ∷ 0x8E ∷ 0x5C ∷ 0x0B ∷ 0x4A ∷ 0x6D ∷ 0xCF ∷ 0x87 ∷ 0x79 ∷ []

-- an advertisement of A and a CONNECT_IND of B in one turn
abbrev pub answered_by : List ℕ → List ℕ → List Entry
answered_by advertisement connect =
    turn_entry 0 ∷ Air A 37 advertisement Passed Good ∷ Air B 37 connect Passed Good ∷ []

-- the CONNECT_IND comes a turn after the advertisement
abbrev pub connected_late : List Entry
connected_late =
    turn_entry 0 ∷ Air A 37 connectable_packet Passed Good ∷ turn_entry 1 ∷ Air B 37 connect_packet Passed Good ∷ []

-- A does not offer it in the last of two advertisements
abbrev pub offered_once : List Entry
offered_once =
    turn_entry 0 ∷ Air A 37 connectable_packet Passed Good ∷ Air A 37 unoffered_packet Passed Good
    ∷ Air B 37 connect_packet Passed Good ∷ []

-- B sends an update whose Instant is event 6 in event 0 of link 1
abbrev pub update_sent : List Entry
update_sent = Enter A 1 0 25 ∷ Enter B 1 0 25 ∷ Sent B 1 1 3 (update_octets 6) ∷ []

-- A takes it, and B lets it hold from event 6 on
abbrev pub update_in_force : List Entry
update_in_force =
    update_sent ++ Took A 1 1 3 (update_octets 6) ∷ Enter A 1 5 9 ∷ Enter B 1 5 9 ∷ Applied B 1 1 6 ∷ []
