-- Journals in which a side draws random words, as worked examples have them.
use Rattle.std.specs.Prelude.{ℕ, List, [], ◌∷◌, ◌++◌}
use Rattle.ble_base.specs.declared.roles.Side.TheVariants.{B}
use Rattle.journal.specs.declared.entries.Entry.{Entry}
use Rattle.journal.specs.declared.entries.Entry.TheVariants.{Fed, Up}
use Rattle.journal_controls.specs.run_model.Rows.{one_connection_journal, turn_entry}

abbrev pub three_words : List ℕ
three_words = 0x11 ∷ 0x22 ∷ 0x33 ∷ []

-- LE Rand, 2018, and its Command Complete with this status and this random number
abbrev pub rand_command : Entry
rand_command = Fed B (0x01 ∷ 0x18 ∷ 0x20 ∷ 0x00 ∷ [])

abbrev pub rand_answer : ℕ → ℕ → Entry
rand_answer status word =
    Up B (0x04 ∷ 0x0E ∷ 0x0C ∷ 0x01 ∷ 0x18 ∷ 0x20 ∷ status ∷ word ∷ 0 ∷ 0 ∷ 0 ∷ 0 ∷ 0 ∷ 0 ∷ 0 ∷ [])

-- the host of the central asks for one in turn 1, and again
abbrev pub rand_asked : List Entry
rand_asked = one_connection_journal ++ turn_entry 1 ∷ rand_command ∷ []

abbrev pub rand_given : List Entry
rand_given = rand_asked ++ rand_answer 0x00 0x22 ∷ []

abbrev pub rand_given_again : List Entry
rand_given_again = rand_given ++ rand_command ∷ rand_answer 0x00 0x33 ∷ []
