-- Lines of a side one after another, each of which comes where it is due (our choice).
use Rattle.std.specs.Prelude.{◌≡◌, ℕ, ◌==◌, Bool, true, false, List, [], ◌∷◌, ◌++◌, Some, None, ⊤, if◌then◌else◌}
use Rattle.ble_base.specs.declared.roles.Side.{Side}
use Rattle.journal.specs.declared.entries.Entry.{Entry}
use Rattle.journal_controls.specs.LinesDue.{lines_due}
use Rattle.journal_controls.specs.journal_ends.Asked.{Words}
use Rattle.journal_controls.specs.link_model.Step.{Step, EventEntered, PacketReceived}
use Rattle.journal_due.specs.ProcedureLines.{applied_by, applied_last, first_of, procedure_line, side_of_line}

-- a line that comes after these
pub record IsDueLine (words : Words) (side : Side) (front : List Entry) (line : Entry) : Type 0 where
  pub procedures : (number : ℕ) → procedure_line number line ≡ first_of (lines_due words side number front)
  pub indication : applied_last side front ≡ applied_by words side front line

-- each of the lines of a side among those that come after these
abbrev pub AreDueLines : Words → Side → List Entry → List Entry → Type 0
AreDueLines words side front [] = ⊤
AreDueLines words side front (line ∷ lines) =
    (side_of_line line ≡ Some side → IsDueLine words side front line) × AreDueLines words side (front ++ line ∷ []) lines

-- of all links of a side, these lines are due on the one with this number alone, and no indication comes into force
pub record IsDueOn (words : Words) (side : Side) (number : ℕ) (due front : List Entry) : Type 0 where
  pub procedures : (other : ℕ) → lines_due words side other front ≡ (if number == other then due else [])
  pub indication : applied_last side front ≡ None

-- in these steps an end may say lines of procedures and of indications
abbrev pub is_of_procedures : Step → Bool
is_of_procedures (EventEntered slot) = true
is_of_procedures (PacketReceived slot octets room) = true
is_of_procedures step = false
