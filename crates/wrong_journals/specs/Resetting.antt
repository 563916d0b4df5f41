-- Journals of a link whose sides are reset, and others in which a link is left as a Reset is answered.
use Rattle.std.specs.Prelude.{List, [], ◌∷◌, ◌++◌}
use Rattle.ble_base.specs.declared.roles.Side.{Side}
use Rattle.ble_base.specs.declared.roles.Side.TheVariants.{A, B}
use Rattle.journal.specs.declared.entries.Entry.{Entry}
use Rattle.journal.specs.declared.entries.Entry.TheVariants.{Fed, Shut, Up}
use Rattle.run_model.specs.Rows.{one_connection_journal, reset, reset_answer, turn_entry}

-- the host of a side resets its controller in turn 1
abbrev pub reset_now : Side → List Entry
reset_now side = one_connection_journal ++ turn_entry 1 ∷ Fed side reset ∷ []

-- which shuts the link
abbrev pub shut_by_reset : Side → List Entry
shut_by_reset side = reset_now side ++ Shut side 1 (record { 0 = 0x00 }) ∷ Up side reset_answer ∷ []

-- the link of A is open as its Reset is answered
abbrev pub left_open : List Entry
left_open = reset_now A ++ Up A reset_answer ∷ []

-- the other side has shut its end, before A is reset in the next turn
abbrev pub other_shut : List Entry
other_shut = shut_by_reset B ++ turn_entry 2 ∷ Fed A reset ∷ []

abbrev pub left_open_at_one : List Entry
left_open_at_one = other_shut ++ Up A reset_answer ∷ []
