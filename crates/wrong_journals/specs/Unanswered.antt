-- Commands that are not answered once, in the turn in which they are complete.
use Rattle.std.specs.Prelude.{List, [], ◌∷◌}
use Rattle.ble_base.specs.declared.roles.Side.TheVariants.{A, B}
use Rattle.journal.specs.declared.entries.Entry.{Entry}
use Rattle.journal.specs.declared.entries.Entry.TheVariants.{Fed, Up}
use Rattle.run_model.specs.Rows.{answer, reset, reset_answer, turn_entry}

abbrev pub never_answered : List Entry
never_answered = turn_entry 0 ∷ Fed A reset ∷ []

abbrev pub answered_twice : List Entry
answered_twice = turn_entry 0 ∷ Fed A reset ∷ Up A reset_answer ∷ Up A reset_answer ∷ []

-- the answer names Set Event Mask, 0C01
abbrev pub answered_otherwise : List Entry
answered_otherwise = turn_entry 0 ∷ Fed A reset ∷ Up A (answer 0x01 0x0C) ∷ []

abbrev pub answered_late : List Entry
answered_late = turn_entry 0 ∷ Fed A reset ∷ turn_entry 1 ∷ Up A reset_answer ∷ []

-- no octet of B makes a command
abbrev pub answered_from_nothing : List Entry
answered_from_nothing = turn_entry 0 ∷ Fed A reset ∷ Up A reset_answer ∷ Up B reset_answer ∷ []
