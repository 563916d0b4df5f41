-- What the entries of a journal of two stations say of one side, and of the turns (our choice).
use Rattle.std.specs.Prelude.{◌≡◌, ℕ, ◌+◌, ◌-◌, ◌==◌, Bool, true, List, [], ◌∷◌, fold, length, Option, Some, slice_get}
use Rattle.std.specs.List.{flat_map, list_any}
use Rattle.ble_base.specs.declared.roles.Side.{Side}
use Rattle.ble_base.specs.declared.roles.Side.TheVariants.{A, B}
use Rattle.ble_base.specs.declared.notes.Note.{Note}
use Rattle.ble_base.specs.declared.notes.Note.TheVariants.{Up}
use Rattle.journal.specs.declared.entries.Entry.{Entry}
use Rattle.journal.specs.declared.entries.Entry.TheVariants.{Turn, Fed, Air, Up as UpEntry}
use Rattle.journal.specs.declared.entries.Mark.{Mark}
use Rattle.radio_replay.specs.Script.{Script, Turn as ScriptTurn, fate_of}
use Rattle.run_model.specs.History.{Event, TurnBegan, HostFed, Called, Noted, Transmitted}
use Rattle.run_model.specs.Journal.{mark_of}

abbrev pub station_of : Side → ℕ
station_of A = 0
station_of B = 1

-- the values of an entry of the second side, where that is the first
abbrev pub of_side : {X : Type 0} → Side → Side → List X → List X
of_side A A values = values
of_side A B values = []
of_side B A values = []
of_side B B values = values

abbrev pub fed_in : Side → Entry → List ℕ
fed_in side (Fed other octets) = of_side side other octets
fed_in side _ = []

-- the octets that were fed to a side
abbrev pub fed_to_side : Side → List Entry → List ℕ
fed_to_side side journal = flat_map (fed_in side) journal

abbrev pub packets_in : Side → Entry → List (List ℕ)
packets_in side (UpEntry other packet) = of_side side other (packet ∷ [])
packets_in side _ = []

-- the packets that the host of a side received
abbrev pub packets_to_host : Side → List Entry → List (List ℕ)
packets_to_host side journal = flat_map (packets_in side) journal

abbrev pub packets_of_note : Note → List (List ℕ)
packets_of_note (Up packet) = packet.items ∷ []
packets_of_note _ = []

-- the packets to the host among these notes
abbrev pub packets_of : List Note → List (List ℕ)
packets_of notes = flat_map packets_of_note notes

-- a turn that begins: its slot, and which radios are on
pub record PairOpening : Type 0 where
  pub slot : ℕ
  pub a_on : Bool
  pub b_on : Option Bool

abbrev pub pair_openings_in : Entry → List PairOpening
pair_openings_in (Turn slot a b) = record { slot = slot; a_on = a; b_on = b } ∷ []
pair_openings_in _ = []

-- the turns that began
abbrev pub turns_of : List Entry → List PairOpening
turns_of journal = flat_map pair_openings_in journal

-- how the turns of a schedule begin, the first of them in this slot
abbrev pub turns_from : ℕ → List ScriptTurn → List PairOpening
turns_from slot [] = []
turns_from slot (turn ∷ turns) =
    record { slot = slot; a_on = turn.a_on; b_on = Some turn.b_on } ∷ turns_from (slot + 1) turns

abbrev pub turn_packets_after : ℕ → Entry → ℕ
turn_packets_after count (Turn slot a b) = 0
turn_packets_after count (Air side channel octets fate verdict) = count + 1
turn_packets_after count _ = count

-- how many packets were on the air since the last turn began
abbrev pub turn_packets : List Entry → ℕ
turn_packets journal = fold turn_packets_after 0 journal

-- a packet that stands after these entries has the next fate of the turn that began last
pub record HasNextFate (script : Script) (front : List Entry) (fate : Mark) : Type 0 where
  pub turn : ScriptTurn
  pub is_now : slice_get script.turns (length (turns_of front) - 1) ≡ Some turn
  pub fate_is : fate ≡ mark_of (fate_of turn (turn_packets front))

-- ---- the station of an event

-- an event is of one of these stations
abbrev pub IsOfStations : List ℕ → Event → Type 0
IsOfStations stations (TurnBegan slot radios) = Unit {0}
IsOfStations stations (HostFed station octets) = list_any (λ other. station == other) stations ≡ true
IsOfStations stations (Called station step) = list_any (λ other. station == other) stations ≡ true
IsOfStations stations (Noted station note) = list_any (λ other. station == other) stations ≡ true
IsOfStations stations (Transmitted station channel octets hearings) =
    list_any (λ other. station == other) stations ≡ true
