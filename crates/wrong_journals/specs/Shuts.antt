-- Journals at whose end a link may be shut, and others at whose end it may not.
use Rattle.std.specs.Prelude.{List, [], ◌∷◌, ◌++◌}
use Rattle.ble_base.specs.declared.roles.Side.TheVariants.{B}
use Rattle.ble_base.specs.declared.verdicts.Verdict.TheVariants.{Missed}
use Rattle.journal.specs.declared.entries.Entry.{Entry}
use Rattle.journal.specs.declared.entries.Entry.TheVariants.{Air}
use Rattle.journal.specs.declared.entries.Mark.TheVariants.{Pass as Passed}
use Rattle.run_model.specs.Rows.{one_connection_journal, one_event_journal}
use Rattle.wrong_journals.specs.Events.{turn_entries}

-- nothing is heard on the link of turn 0, whose interval is 24, up to turn 144
abbrev pub failing : List Entry
failing = one_connection_journal ++ turn_entries 1 144

-- and up to the turn before that
abbrev pub before_failing : List Entry
before_failing = one_connection_journal ++ turn_entries 1 143

-- a packet is on the air in turn 144
abbrev pub failing_after_packet : List Entry
failing_after_packet = failing ++ Air B 25 [] Passed Missed ∷ []

-- up to turn 144, but A heard B in turn 2
abbrev pub heard_once : List Entry
heard_once = one_event_journal ++ turn_entries 3 142

-- the supervision timeout of 72 units has passed since then
abbrev pub silent : List Entry
silent = one_event_journal ++ turn_entries 3 576

-- one turn before that
abbrev pub before_silent : List Entry
before_silent = one_event_journal ++ turn_entries 3 575
