-- Journals with lines of links that are not open, or with a link that is not opened as the next one.
use Rattle.std.specs.Prelude.{ℕ, List, [], ◌∷◌, ◌++◌}
use Rattle.ble_base.specs.declared.roles.Role.TheVariants.{Central, Peripheral}
use Rattle.ble_base.specs.declared.roles.Side.TheVariants.{A, B}
use Rattle.ble_base.specs.declared.verdicts.Verdict.TheVariants.{Missed}
use Rattle.journal.specs.declared.entries.Entry.{Entry}
use Rattle.journal.specs.declared.entries.Entry.TheVariants.{Air, Up, Enter, Opened, Shut, Sent, Took}
use Rattle.journal.specs.declared.entries.Mark.TheVariants.{Lost}
use Rattle.run_model.specs.Rows.{one_connection_journal, turn_entry}
use Rattle.journal_pdus.specs.journal_acks.Rows.{data_acknowledged}
use Rattle.wrong_journals.specs.Hearings.{lost_connect, passed_connect}
use Rattle.wrong_journals.specs.Hosts.{data_up}
use Rattle.wrong_journals.specs.Resetting.{shut_by_reset}

-- a PDU is fixed before the link is open
abbrev pub opened_at_other : List Entry
opened_at_other = passed_connect ++ Opened A 1 0 Peripheral ∷ []

abbrev pub sent_before : List Entry
sent_before = opened_at_other ++ Sent B 1 1 2 (0xAA ∷ []) ∷ Opened B 1 0 Central ∷ []

-- a PDU is taken after the link is shut
abbrev pub took_after : List Entry
took_after = shut_by_reset A ++ Took A 1 1 2 (0xAA ∷ []) ∷ []

-- a side enters an event of a link that it did not open
abbrev pub anchor_of_other : List Entry
anchor_of_other = lost_connect ++ turn_entry 1 ∷ turn_entry 2 ∷ []

abbrev pub entered_unopened : List Entry
entered_unopened = anchor_of_other ++ Enter A 1 0 25 ∷ []

-- a link is shut twice
abbrev pub shut_twice : List Entry
shut_twice = shut_by_reset A ++ Shut A 1 (record { 0 = 0x00 }) ∷ []

-- a link is opened twice
abbrev pub opened_twice : List Entry
opened_twice = one_connection_journal ++ Opened B 1 1 Central ∷ []

-- a second link under the handle of the first: in the next turn the central sends another CONNECT_IND, with the access
-- address 7176412A, which is lost
abbrev pub second_connect : List ℕ
second_connect =
    0xD6 ∷ 0xBE ∷ 0x89 ∷ 0x8E ∷ 0xA8 ∷ 0xF0 ∷ 0x5C ∷ 0xA1 ∷ 0x3D ∷ 0x49 ∷ 0x99 ∷ 0x70 ∷ 0x7F ∷ 0x31 ∷ 0x11
    ∷ 0xA6 ∷ 0x69 ∷ 0xB7 ∷ 0xD2 ∷ 0xA2 ∷ 0x30 ∷ 0x98 ∷ 0xA9 ∷ 0xD0 ∷ 0x9E ∷ 0x52 ∷ 0x33 ∷ 0xD8 ∷ 0xA2 ∷ 0x98
    ∷ 0x08 ∷ 0x24 ∷ 0x83 ∷ 0x3B ∷ 0x03 ∷ 0x8E ∷ 0x5C ∷ 0x0B ∷ 0x4A ∷ 0x6D ∷ 0xF9 ∷ 0xE9 ∷ 0x46 ∷ []

abbrev pub two_connected : List Entry
two_connected = one_connection_journal ++ turn_entry 1 ∷ Air B 37 second_connect Lost Missed ∷ []

abbrev pub handle_in_use : List Entry
handle_in_use = two_connected ++ Opened B 2 0 Central ∷ []

-- a link under a handle that is not the next one
abbrev pub handle_skipped : List Entry
handle_skipped = passed_connect ++ Opened A 1 1 Peripheral ∷ []

-- data under a handle that no link has
abbrev pub data_of_none : List Entry
data_of_none = one_connection_journal ++ Up A (0x02 ∷ 0x01 ∷ 0x20 ∷ 0x01 ∷ 0x00 ∷ 0xAA ∷ []) ∷ []

-- data with a length of two, and one octet
abbrev pub data_cut : List Entry
data_cut = data_acknowledged ++ Up A (0x02 ∷ 0x00 ∷ 0x20 ∷ 0x02 ∷ 0x00 ∷ 0xAA ∷ []) ∷ []

-- a complete packet under a handle that no link has
abbrev pub credit_of_none : List Entry
credit_of_none =
    one_connection_journal ++ Up A (0x04 ∷ 0x13 ∷ 0x05 ∷ 0x01 ∷ 0x01 ∷ 0x00 ∷ 0x01 ∷ 0x00 ∷ []) ∷ []

-- complete packets of two handles in one event
abbrev pub before_credits : List Entry
before_credits = data_acknowledged ++ data_up ∷ []

abbrev pub credit_of_two : List Entry
credit_of_two =
    before_credits ++ Up B (0x04 ∷ 0x13 ∷ 0x09 ∷ 0x02 ∷ 0x00 ∷ 0x00 ∷ 0x01 ∷ 0x00 ∷ 0x01 ∷ 0x00 ∷ 0x01 ∷ 0x00 ∷ []) ∷ []
