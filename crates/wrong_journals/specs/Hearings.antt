-- Journals in which a CONNECT_IND is missed, or its link is not opened at the side that heard it, or is opened at one that
-- did not.
use Rattle.std.specs.Prelude.{List, [], ◌∷◌, ◌++◌}
use Rattle.ble_base.specs.declared.roles.Role.TheVariants.{Central, Peripheral}
use Rattle.ble_base.specs.declared.roles.Side.TheVariants.{A, B}
use Rattle.ble_base.specs.declared.verdicts.Verdict.TheVariants.{Broken, Good, Missed}
use Rattle.journal.specs.declared.entries.Entry.{Entry}
use Rattle.journal.specs.declared.entries.Entry.TheVariants.{Air, Opened}
use Rattle.journal.specs.declared.entries.Mark.TheVariants.{Damage, Lost, Pass}
use Rattle.journal_pdus.specs.journal_hearings.Rows.{offered_journal}
use Rattle.run_model.specs.Rows.{connect_packet, turn_entry}

-- the CONNECT_IND passes, and the advertiser misses it
abbrev pub connect_missed : List Entry
connect_missed = offered_journal ++ Air B 37 connect_packet Pass Missed ∷ []

-- it passes and is heard, and it is lost
abbrev pub passed_connect : List Entry
passed_connect = offered_journal ++ Air B 37 connect_packet Pass Good ∷ []

abbrev pub unheard_connect : List Entry
unheard_connect = offered_journal ++ Air B 37 connect_packet Lost Missed ∷ []

-- the advertiser opens the link of a CONNECT_IND that is lost, and of one that is changed
abbrev pub lost_connect : List Entry
lost_connect = unheard_connect ++ Opened B 1 0 Central ∷ []

abbrev pub opened_though_lost : List Entry
opened_though_lost = lost_connect ++ Opened A 1 0 Peripheral ∷ []

abbrev pub broken_connect : List Entry
broken_connect =
    offered_journal ++ Air B 37 connect_packet (Damage 4 (0x01 ∷ [])) Broken ∷ Opened B 1 0 Central ∷ []

abbrev pub opened_though_broken : List Entry
opened_though_broken = broken_connect ++ Opened A 1 0 Peripheral ∷ []

-- the advertiser hears the CONNECT_IND, and does not open its link before the next turn
abbrev pub heard_connect : List Entry
heard_connect = passed_connect ++ Opened B 1 0 Central ∷ []

abbrev pub heard_unopened : List Entry
heard_unopened = heard_connect ++ turn_entry 1 ∷ []

-- a side opens the link of a CONNECT_IND that answers no advertisement of its own
abbrev pub unasked_connect : List Entry
unasked_connect = turn_entry 0 ∷ Air B 37 connect_packet Pass Good ∷ Opened B 1 0 Central ∷ []

abbrev pub opened_unasked : List Entry
opened_unasked = unasked_connect ++ Opened A 1 0 Peripheral ∷ []
