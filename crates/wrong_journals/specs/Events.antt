-- Journals of a link whose lines of links and events are not those of its CONNECT_IND.
use Rattle.std.specs.Prelude.{ℕ, zero, suc, ◌+◌, List, [], ◌∷◌, ◌++◌}
use Rattle.ble_base.specs.declared.roles.Role.TheVariants.{Central, Peripheral}
use Rattle.ble_base.specs.declared.roles.Side.TheVariants.{A, B}
use Rattle.journal.specs.declared.entries.Entry.{Entry}
use Rattle.journal.specs.declared.entries.Entry.TheVariants.{Enter, Opened}
use Rattle.run_model.specs.Rows.{connect_packet, one_connection_journal, turn_entry}
use Rattle.journal_pdus.specs.journal_links.Rows.{answered_by, unoffered_packet}
use Rattle.wrong_journals.specs.Hearings.{passed_connect}
use Rattle.wrong_journals.specs.Resetting.{shut_by_reset}

-- the side that received the CONNECT_IND opens the link as its central
abbrev pub roles_exchanged : List Entry
roles_exchanged = passed_connect ++ Opened A 1 0 Central ∷ []

-- a side opens the link one turn late, after a Reset that shut it
abbrev pub opened_late : List Entry
opened_late = shut_by_reset B ++ Opened B 1 0 Central ∷ []

-- a side opens a link that no CONNECT_IND began
abbrev pub opened_from_nothing : List Entry
opened_from_nothing = one_connection_journal ++ Opened B 2 1 Central ∷ []

-- event 0 is entered one turn late
abbrev pub entered_late : List Entry
entered_late = one_connection_journal ++ turn_entry 1 ∷ turn_entry 2 ∷ turn_entry 3 ∷ Enter A 1 0 25 ∷ []

-- event 0 is entered on another channel
abbrev pub entered_elsewhere : List Entry
entered_elsewhere = one_connection_journal ++ turn_entry 1 ∷ turn_entry 2 ∷ Enter A 1 0 24 ∷ []

-- event 0 is entered on the channel of algorithm #1, where both sides offer #2
abbrev pub entered_by_hopping : List Entry
entered_by_hopping = one_connection_journal ++ turn_entry 1 ∷ turn_entry 2 ∷ Enter A 1 0 5 ∷ []

-- and on the channel of algorithm #2, where the advertiser does not offer it
abbrev pub unoffered_connection : List Entry
unoffered_connection =
    answered_by unoffered_packet connect_packet ++ Opened A 1 0 Peripheral ∷ Opened B 1 0 Central ∷ turn_entry 1
    ∷ turn_entry 2 ∷ []

abbrev pub entered_unoffered : List Entry
entered_unoffered = unoffered_connection ++ Enter A 1 0 25 ∷ []

-- event 1 comes in the place of event 0
abbrev pub entered_misnumbered : List Entry
entered_misnumbered = one_connection_journal ++ turn_entry 1 ∷ turn_entry 2 ∷ Enter A 1 1 25 ∷ []

-- ---- an order of events

abbrev pub turns_before_first : List Entry
turns_before_first = one_connection_journal ++ turn_entry 1 ∷ turn_entry 2 ∷ []

-- this many turns, from the one in this slot on
abbrev pub turn_entries : ℕ → ℕ → List Entry
turn_entries slot zero = []
turn_entries slot (suc count) = turn_entry slot ∷ turn_entries (slot + 1) count

abbrev pub turns_before_second : List Entry
turns_before_second = one_connection_journal ++ turn_entries 1 26

-- a side enters event 0 twice
abbrev pub entered_twice : List Entry
entered_twice = turns_before_first ++ Enter A 1 0 25 ∷ Enter A 1 0 25 ∷ []

-- a side enters event 1, in its turn and on its channel, and has not entered event 0
abbrev pub left_out : List Entry
left_out = turns_before_second ++ Enter A 1 1 20 ∷ []

-- so it is where only the other side has entered event 0
abbrev pub turns_of_other : List Entry
turns_of_other = turns_before_first ++ Enter B 1 0 25 ∷ turn_entries 3 24

abbrev pub entered_by_other : List Entry
entered_by_other = turns_of_other ++ Enter A 1 1 20 ∷ []
