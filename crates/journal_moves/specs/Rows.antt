-- Journals in which a side does what it is to do, as worked examples have them.
use Rattle.std.specs.Prelude.{List, [], ◌∷◌, ◌++◌}
use Rattle.ble_base.specs.declared.roles.Side.TheVariants.{A, B}
use Rattle.ble_base.specs.declared.verdicts.Verdict.TheVariants.{Good}
use Rattle.journal.specs.declared.entries.Entry.{Entry}
use Rattle.journal.specs.declared.entries.Entry.TheVariants.{Air, Enter}
use Rattle.journal.specs.declared.entries.Mark.TheVariants.{Pass as Passed}
use Rattle.journal_wants.specs.run_model.Rows.{connectable_packet, first_packet, one_connection_journal, turn_entry}
use Rattle.journal_wants.specs.Rows.{both_asked}

-- the advertiser has sent in the turn of the CONNECT_IND
abbrev pub advertised : List Entry
advertised = both_asked ++ Air A 37 connectable_packet Passed Good ∷ []

-- the turn of the first anchor begins
abbrev pub anchor_begins : List Entry
anchor_begins = one_connection_journal ++ turn_entry 1 ∷ turn_entry 2 ∷ Enter A 1 0 25 ∷ Enter B 1 0 25 ∷ []

-- the central has sent, and the peripheral heard it
abbrev pub central_sent : List Entry
central_sent = anchor_begins ++ Air B 25 first_packet Passed Good ∷ []
