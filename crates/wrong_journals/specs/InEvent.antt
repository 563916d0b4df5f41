-- Journals in which a packet of a link comes in its event, and others in which it does not.
use Rattle.std.specs.Prelude.{List, [], ◌∷◌, ◌++◌}
use Rattle.ble_base.specs.declared.roles.Side.TheVariants.{A, B}
use Rattle.ble_base.specs.declared.verdicts.Verdict.TheVariants.{Good}
use Rattle.journal.specs.declared.entries.Entry.{Entry}
use Rattle.journal.specs.declared.entries.Entry.TheVariants.{Air, Enter}
use Rattle.journal.specs.declared.entries.Mark.TheVariants.{Pass}
use Rattle.run_model.specs.Rows.{first_packet, one_event_journal, turn_entry}
use Rattle.journal_pdus.specs.journal_slots.Rows.{next_packet}
use Rattle.wrong_journals.specs.Events.{turns_before_first}

-- both sides have entered event 0, in its turn
abbrev pub event_entered : List Entry
event_entered = turns_before_first ++ Enter A 1 0 25 ∷ Enter B 1 0 25 ∷ []

-- the turn after that, and the one after that
abbrev pub turn_after : List Entry
turn_after = one_event_journal ++ turn_entry 3 ∷ []

abbrev pub two_turns_after : List Entry
two_turns_after = one_event_journal ++ turn_entry 3 ∷ turn_entry 4 ∷ []

-- a packet two turns after its event
abbrev pub packet_too_late : List Entry
packet_too_late = two_turns_after ++ Air B 25 next_packet Pass Good ∷ []

-- the other side has entered the event, and its sender has not
abbrev pub only_other_entered : List Entry
only_other_entered = turns_before_first ++ Enter A 1 0 25 ∷ []

abbrev pub packet_before_event : List Entry
packet_before_event = only_other_entered ++ Air B 25 first_packet Pass Good ∷ []
