-- The turns of a run (our choice).
use Rattle.std.specs.Prelude.{◌≡◌, ℕ, ◌+◌, ◌==◌, ◌<◌, Bool, List, [], ◌∷◌, ◌++◌, fold, map, if◌then◌else◌}
use Rattle.std.specs.List.{flat_map}
use Rattle.controller_model.specs.Step.{Step, HostOctet, TurnBegins, PacketHeard, NothingHeard, TurnEnds}
use Rattle.run_model.specs.History.{Event, TurnBegan, HostFed, Called, Noted, Transmitted, turns_begun}
use Rattle.run_model.specs.Run.{Plan}

-- how a turn begins
pub record Opening : Type 0 where
  pub slot : ℕ
  -- whether the radio of each station is on
  pub radios : List Bool

abbrev pub openings_in : Event → List Opening
openings_in (TurnBegan slot radios) = record { slot = slot; radios = radios } ∷ []
openings_in (HostFed station octets) = []
openings_in (Called station step) = []
openings_in (Noted station note) = []
openings_in (Transmitted station channel octets hearings) = []

-- the turns that began
abbrev pub openings_of : List Event → List Opening
openings_of history = flat_map openings_in history

-- how the turns of a schedule begin, the first of them in this slot
abbrev pub openings_from : List ℕ → ℕ → List Plan → List Opening
openings_from stations slot [] = []
openings_from stations slot (plan ∷ plans) =
    record { slot = slot; radios = map plan.radio_of stations } ∷ openings_from stations (slot + 1) plans

-- a turn begins in the slot that comes next, and anything else after a turn began
abbrev pub IsInTurn : List Event → Event → Type 0
IsInTurn before (TurnBegan slot radios) = slot ≡ turns_begun before
IsInTurn before (HostFed station octets) = 0 < turns_begun before
IsInTurn before (Called station step) = 0 < turns_begun before
IsInTurn before (Noted station note) = 0 < turns_begun before
IsInTurn before (Transmitted station channel octets hearings) = 0 < turns_begun before

-- ---- the calls of a turn

-- what a call that brings no octet does
pub data Call : Type 0 where
  BeginsTurn : Call
  EndsPhase : Call
  EndsTurn : Call

abbrev pub call_in : Step → List Call
call_in (HostOctet octet) = []
call_in (TurnBegins slot on) = BeginsTurn ∷ []
call_in (PacketHeard octets) = EndsPhase ∷ []
call_in NothingHeard = EndsPhase ∷ []
call_in TurnEnds = EndsTurn ∷ []

abbrev pub calls_after : ℕ → List Call → Event → List Call
calls_after station before (TurnBegan slot radios) = []
calls_after station before (Called other step) = before ++ (if station == other then call_in step else [])
calls_after station before (HostFed other octets) = before
calls_after station before (Noted other note) = before
calls_after station before (Transmitted sender channel octets hearings) = before

-- the calls on the controller of a station since the last turn began, but those with octets of its host
unfoldable pub calls_in_turn : ℕ → List Event → List Call
calls_in_turn station history = fold (calls_after station) [] history

-- the turn begins, has three phases, and ends
abbrev pub calls_of_a_turn : List Call
calls_of_a_turn = BeginsTurn ∷ EndsPhase ∷ EndsPhase ∷ EndsPhase ∷ EndsTurn ∷ []
