-- Turns whose lines do not come in their order.
use Rattle.std.specs.Prelude.{List, [], ◌∷◌}
use Rattle.ble_base.specs.declared.roles.Side.TheVariants.{A, B}
use Rattle.journal.specs.declared.entries.Entry.{Entry}
use Rattle.journal.specs.declared.entries.Entry.TheVariants.{Fed}
use Rattle.run_model.specs.Rows.{turn_entry}

-- B is fed before A
abbrev pub other_fed_first : List Entry
other_fed_first = turn_entry 0 ∷ Fed B (0x01 ∷ []) ∷ Fed A (0x01 ∷ []) ∷ []

-- a side is fed twice in a turn
abbrev pub side_fed_twice : List Entry
side_fed_twice = turn_entry 0 ∷ Fed A (0x01 ∷ []) ∷ Fed A (0x03 ∷ []) ∷ []
