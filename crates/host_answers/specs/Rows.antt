-- Lines of a host and its answers, as worked examples have them.
use Rattle.std.specs.Prelude.{ℕ, List, [], ◌∷◌}
use Rattle.ble_base.specs.declared.roles.Side.TheVariants.{A}
use Rattle.journal.specs.declared.entries.Entry.{Entry}
use Rattle.journal.specs.declared.entries.Entry.TheVariants.{Fed, Up}

-- Reset, 0C03, and Disconnect, 0406, of handle 0 with reason 13, are fed to side A, the second of them in two parts
abbrev pub both_fed : List Entry
both_fed =
    Fed A (0x01 ∷ 0x03 ∷ 0x0C ∷ 0x00 ∷ 0x01 ∷ 0x06 ∷ []) ∷ Fed A (0x04 ∷ 0x03 ∷ 0x00 ∷ 0x00 ∷ 0x13 ∷ []) ∷ []

-- Command Complete of Reset, and Command Status of Disconnect, with a status
abbrev pub reset_answer : ℕ → Entry
reset_answer status = Up A (0x04 ∷ 0x0E ∷ 0x04 ∷ 0x01 ∷ 0x03 ∷ 0x0C ∷ status ∷ [])

abbrev pub disconnect_answer : ℕ → Entry
disconnect_answer status = Up A (0x04 ∷ 0x0F ∷ 0x04 ∷ status ∷ 0x01 ∷ 0x06 ∷ 0x04 ∷ [])
