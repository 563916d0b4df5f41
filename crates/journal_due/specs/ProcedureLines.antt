-- Which line of a control procedure comes where in a journal, exactly: a side says that a procedure begins, is done or is
-- refused, and that an indication comes into force, where that is due, and nowhere else (Core 5.2, volume 6 part B,
-- sections 5.1 and 5.5; the order of lines is our choice).
use Rattle.std.specs.Prelude.{◌≡◌, ℕ, ◌==◌, Bool, true, false, List, [], ◌∷◌, ◌++◌, fold, Option, Some, None, if◌then◌else◌}
use Rattle.std.specs.Option.{option_map}
use Rattle.ble_base.specs.declared.roles.Side.{Side}
use Rattle.journal.specs.declared.entries.Entry.{Entry}
use Rattle.journal.specs.declared.entries.Entry.TheVariants.{Air, Applied, Began, Done, Enter, Fed, Refused, Turn}
use Rattle.journal_controls.specs.LinesDue.{applied_due, lines_due}
use Rattle.journal_controls.specs.journal_ends.Asked.{Words}
use Rattle.journal_controls.specs.journal_packets.Belonging.{is_side}
use Rattle.journal_controls.specs.run_model.Order.{side_of_note}

-- the side of a line, and of none for a turn
abbrev pub side_of_line : Entry → Option Side
side_of_line (Fed side octets) = Some side
side_of_line (Air side channel octets fate verdict) = Some side
side_of_line line = side_of_note line

abbrev pub is_same_side : Option Side → Side → Bool
is_same_side None side = false
is_same_side (Some other) side = is_side other side

-- ---- a procedure begins, is done or is refused

abbrev pub line_if : Bool → Entry → Option Entry
line_if true line = Some line
line_if false line = None

-- the line, where it is one of a procedure on the link with this number
abbrev pub procedure_line : ℕ → Entry → Option Entry
procedure_line number (Began side link kind) = line_if (link == number) (Began side link kind)
procedure_line number (Done side link kind) = line_if (link == number) (Done side link kind)
procedure_line number (Refused side link kind code) = line_if (link == number) (Refused side link kind code)
procedure_line number line = None

abbrev pub first_of : List Entry → Option Entry
first_of [] = None
first_of (line ∷ lines) = Some line

-- the next line of a side is the one of a procedure that is due to it, on each link, and else it is none of a procedure
abbrev pub AllProceduresAreDue : Words → List Entry → Type 0
AllProceduresAreDue words journal = (front rest : List Entry) (line : Entry) (side : Side) (number : ℕ)
    → journal ≡ front ++ line ∷ rest → side_of_line line ≡ Some side
    → procedure_line number line ≡ first_of (lines_due words side number front)

-- ---- an indication comes into force

-- what the line of an indication says
pub record AppliedLine : Type 0 where
  pub link : ℕ
  pub indication : ℕ
  pub event : ℕ

abbrev pub applied_in : Entry → Option AppliedLine
applied_in (Applied side link number event) =
    Some (record { link = link; indication = number; event = event })
applied_in line = None

-- lines of the other side, and turns, leave what the last line of this side said
abbrev pub applied_after : Side → Option AppliedLine → Entry → Option AppliedLine
applied_after side before line = if is_same_side (side_of_line line) side then applied_in line else before

-- the indication of the last line of a side, where that says that one comes into force
unfoldable pub applied_last : Side → List Entry → Option AppliedLine
applied_last side front = fold (applied_after side) None front

abbrev pub applied_line : ℕ → ℕ → ℕ → AppliedLine
applied_line link event number = record { link = link; indication = number; event = event }

-- the indication that comes into force in the event of a line
abbrev pub applied_by : Words → Side → List Entry → Entry → Option AppliedLine
applied_by words side front (Enter other link event channel) =
    option_map (applied_line link event) (applied_due words side link front)
applied_by words side front line = None

-- the line of an indication comes just before the line of the event from which it is in force, and nowhere else
abbrev pub AllIndicationsAreDue : Words → List Entry → Type 0
AllIndicationsAreDue words journal = (front rest : List Entry) (line : Entry) (side : Side) → journal ≡ front ++ line ∷ rest
    → side_of_line line ≡ Some side → applied_last side front ≡ applied_by words side front line

-- ---- nothing of the kind is due

-- to a side, on any link
pub record RestsAt (words : Words) (side : Side) (front : List Entry) : Type 0 where
  pub procedures : (number : ℕ) → lines_due words side number front ≡ []
  pub indication : applied_last side front ≡ None

-- to neither side
abbrev pub NoneIsDue : Words → List Entry → Type 0
NoneIsDue words front = (side : Side) → RestsAt words side front

-- a turn begins, or a packet is on the air
abbrev pub is_turn_or_packet : Entry → Bool
is_turn_or_packet (Turn slot a b) = true
is_turn_or_packet (Air side channel octets fate verdict) = true
is_turn_or_packet line = false

-- what is due is said before the next packet and before the next turn: a packet that an end hears may bring a line that
-- is due then, in place of any before
abbrev pub NoneIsLeftOut : Words → List Entry → Type 0
NoneIsLeftOut words journal = (front rest : List Entry) (line : Entry) → journal ≡ front ++ line ∷ rest
    → is_turn_or_packet line ≡ true → NoneIsDue words front
