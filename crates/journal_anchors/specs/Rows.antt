-- A wrong journal, as a worked example has it.
use Rattle.std.specs.Prelude.{List, [], ◌∷◌, ◌++◌}
use Rattle.journal.specs.declared.entries.Entry.{Entry}
use Rattle.journal_sending.specs.run_model.Rows.{one_connection_journal, turn_entry}

-- neither side enters the event of the first anchor
abbrev pub event_missed : List Entry
event_missed = one_connection_journal ++ turn_entry 1 ∷ turn_entry 2 ∷ turn_entry 3 ∷ []
