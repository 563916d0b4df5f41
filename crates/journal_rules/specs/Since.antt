-- The last of some lines, and those since, of a side on a link.
use Rattle.std.specs.Prelude.{ℕ, ◌==◌, ◌&&◌, Bool, false, List, [], ◌∷◌, ◌++◌, fold, Option, Some, None, if◌then◌else◌}
use Rattle.ble_base.specs.declared.roles.Side.{Side}
use Rattle.journal.specs.declared.entries.Entry.{Entry}
use Rattle.journal.specs.declared.entries.Entry.TheVariants.{Opened}
use Rattle.journal_events.specs.journal_leaving.journal_controls.journal_packets.Belonging.{is_side}

-- the lines after the last one that passes; all of them where none does
abbrev pub since : (Entry → Bool) → List Entry → List Entry
since passes lines = fold (λ after line. if passes line then [] else after ++ line ∷ []) [] lines

abbrev pub last_of : List Entry → Option Entry
last_of [] = None
last_of (line ∷ []) = Some line
last_of (line ∷ next ∷ lines) = last_of (next ∷ lines)

abbrev pub is_own : Side → ℕ → Side → ℕ → Bool
is_own side number other link = is_side other side && link == number

abbrev pub opens_at : Side → ℕ → Entry → Bool
opens_at side number (Opened other link handle role) = is_own side number other link
opens_at side number line = false
