-- The order in which a side enters the events of a link (Core 5.2, volume 6 part B, section 4.5.1).
use Rattle.std.specs.Prelude.{◌≡◌, ℕ, ◌+◌, ◌==◌, ◌&&◌, List, ◌∷◌, ◌++◌, fold, if◌then◌else◌}
use Rattle.ble_base.specs.declared.roles.Side.{Side}
use Rattle.journal.specs.declared.entries.Entry.{Entry}
use Rattle.journal.specs.declared.entries.Entry.TheVariants.{Enter}
use Rattle.journal_packets.specs.Belonging.{is_side}

abbrev pub entered_after : ℕ → Side → ℕ → Entry → ℕ
entered_after number side count (Enter other link event channel) =
    if is_side other side && link == number then count + 1 else count
entered_after number side count _ = count

-- how many events of a link a side has entered. Events are numbered from 0, and a side enters them one after another,
-- so this is also the number of the next one
unfoldable pub entered_on : Side → ℕ → List Entry → ℕ
entered_on side number front = fold (entered_after number side) 0 front

-- each line of an event has the number of the next one
abbrev pub AllAreInOrder : List Entry → Type 0
AllAreInOrder journal = (front rest : List Entry) (side : Side) (number event channel : ℕ)
    → journal ≡ front ++ Enter side number event channel ∷ rest → event ≡ entered_on side number front
