-- The history of a run: what happened at its stations, in order, with each call on a controller (our choice). Stations
-- are numbered from 0.
use Rattle.std.specs.Prelude.{ℕ, ◌+◌, ◌==◌, ◌&&◌, Bool, true, false, List, [], ◌∷◌, fold, length, Option, Some, None, if◌then◌else◌}
use Rattle.std.specs.List.{flat_map, list_any}
use Rattle.ble_base.specs.declared.notes.Note.{Note}
use Rattle.ble_base.specs.declared.verdicts.Verdict.{Verdict}
use Rattle.ble_base.specs.declared.verdicts.Verdict.TheVariants.{Missed, Broken, Forged, Good}
use Rattle.radio_replay.specs.declared.fates.Fate.{Fate}
use Rattle.radio_replay.specs.Damage.{damaged_packet}
use Rattle.controller_model.specs.Step.{Step}

-- a packet at another station: what the radio did to it on the way there, and the verdict of that station
pub record Hearing : Type 0 where
  pub listener : ℕ
  pub fate : Fate
  pub verdict : Verdict

pub data Event : Type 0 where
  -- a turn begins, with the radio of each station on or off
  TurnBegan : (slot : ℕ) (radios : List Bool) → Event
  -- the host of a station sends these octets
  HostFed : (station : ℕ) (octets : List ℕ) → Event
  -- a call on the controller of a station; a journal has no line of it
  Called : (station : ℕ) (step : Step) → Event
  -- the controller of a station notes this
  Noted : (station : ℕ) (note : Note) → Event
  -- a station transmits a packet; there is a hearing for each other station, in order
  Transmitted : (station channel : ℕ) (octets : List ℕ) (hearings : List Hearing) → Event

abbrev pub one_if : {A : Type 0} → Bool → A → List A
one_if true x = x ∷ []
one_if false x = []

-- ---- what is read off a history

-- the calls on the controller of a station: its past
abbrev pub steps_in : ℕ → Event → List Step
steps_in station (Called other step) = one_if (station == other) step
steps_in station event = []

abbrev pub past_of : ℕ → List Event → List Step
past_of station history = flat_map (steps_in station) history

-- what the controller of a station noted
abbrev pub notes_in : ℕ → Event → List Note
notes_in station (Noted other note) = one_if (station == other) note
notes_in station event = []

abbrev pub noted_by : ℕ → List Event → List Note
noted_by station history = flat_map (notes_in station) history

-- the octets that a station was fed
abbrev pub octets_in : ℕ → Event → List ℕ
octets_in station (HostFed other octets) = if station == other then octets else []
octets_in station event = []

abbrev pub fed_to : ℕ → List Event → List ℕ
fed_to station history = flat_map (octets_in station) history

-- how many turns began
abbrev pub turns_in : Event → ℕ
turns_in (TurnBegan slot radios) = 1
turns_in event = 0

unfoldable pub turns_begun : List Event → ℕ
turns_begun history = fold (λ count event. count + turns_in event) 0 history

-- how many packets were on the air since the last turn began
abbrev pub packets_after : ℕ → Event → ℕ
packets_after count (TurnBegan slot radios) = 0
packets_after count (Transmitted station channel octets hearings) = count + 1
packets_after count event = count

unfoldable pub packets_on_air : List Event → ℕ
packets_on_air history = fold packets_after 0 history

-- how many hearings there were since the last turn began, which is the number of its fates that are used up
abbrev pub fates_after : ℕ → Event → ℕ
fates_after count (TurnBegan slot radios) = 0
fates_after count (Transmitted station channel octets hearings) = count + length hearings
fates_after count event = count

unfoldable pub fates_used : List Event → ℕ
fates_used history = fold fates_after 0 history

-- ---- the packet that was handed on to a controller since the last call on it

abbrev pub is_good : Verdict → Bool
is_good Good = true
is_good Missed = false
is_good Broken = false
is_good Forged = false

-- a station received a packet that it judges good
abbrev pub has_received : ℕ → List Hearing → Bool
has_received station hearings = list_any (λ hearing. (station == hearing.listener) && is_good hearing.verdict) hearings

-- a controller is handed what is good, and what is forged, which ends its link
abbrev pub is_handed : Verdict → Bool
is_handed Good = true
is_handed Forged = true
is_handed Missed = false
is_handed Broken = false

-- what the radio left of a packet, where it is handed on to the controller of a station
abbrev pub handed_or : Option (List ℕ) → ℕ → List ℕ → List Hearing → Option (List ℕ)
handed_or before station octets [] = before
handed_or before station octets (hearing ∷ hearings) =
    if (station == hearing.listener) && is_handed hearing.verdict then Some (damaged_packet hearing.fate octets)
    else handed_or before station octets hearings

abbrev pub received_after : ℕ → Option (List ℕ) → Event → Option (List ℕ)
received_after station before (Called other step) = if station == other then None else before
received_after station before (Transmitted sender channel octets hearings) = handed_or before station octets hearings
received_after station before event = before

unfoldable pub packet_received : ℕ → List Event → Option (List ℕ)
packet_received station history = fold (received_after station) None history
