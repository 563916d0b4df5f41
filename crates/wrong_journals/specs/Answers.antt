-- Journals in which an answer is missed, or a CONNECT_IND opens no link at the side that sent it.
use Rattle.std.specs.Prelude.{List, [], ◌∷◌, ◌++◌}
use Rattle.ble_base.specs.declared.roles.Role.TheVariants.{Peripheral}
use Rattle.ble_base.specs.declared.roles.Side.TheVariants.{A, B}
use Rattle.ble_base.specs.declared.verdicts.Verdict.TheVariants.{Broken, Good, Missed}
use Rattle.journal.specs.declared.entries.Entry.{Entry}
use Rattle.journal.specs.declared.entries.Entry.TheVariants.{Air, Enter, Opened}
use Rattle.journal.specs.declared.entries.Mark.TheVariants.{Pass}
use Rattle.run_model.specs.Rows.{first_packet, first_reply, turn_entry}
use Rattle.wrong_journals.specs.Events.{turns_before_first}
use Rattle.wrong_journals.specs.Hearings.{passed_connect, unheard_connect}

-- ---- an answer

-- the central sends the first packet of the link, and the peripheral hears it
abbrev pub before_answer : List Entry
before_answer = turns_before_first ++ Enter A 1 0 25 ∷ Enter B 1 0 25 ∷ Air B 25 first_packet Pass Good ∷ []

-- the answer passes, and the central misses it
abbrev pub answer_missed : List Entry
answer_missed = before_answer ++ Air A 25 first_reply Pass Missed ∷ []

-- it is short, and is judged broken all the same
abbrev pub answer_broken : List Entry
answer_broken = before_answer ++ Air A 25 first_reply Pass Broken ∷ []

-- ---- a CONNECT_IND

-- A hears the CONNECT_IND of B and holds the link from there on, and B does not
abbrev pub opened_by_other : List Entry
opened_by_other = passed_connect ++ Opened A 1 0 Peripheral ∷ []

-- the next turn begins, and neither holds the link, where A did not hear it, or only A does
abbrev pub never_opened : List Entry
never_opened = unheard_connect ++ turn_entry 1 ∷ []

abbrev pub never_opened_by_central : List Entry
never_opened_by_central = opened_by_other ++ turn_entry 1 ∷ []
