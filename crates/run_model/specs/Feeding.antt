-- What the turns that began feed to a station, and which events come while a turn feeds its stations (our choice).
use Rattle.std.specs.Prelude.{◌≡◌, ℕ, ◌==◌, Bool, true, false, List, take}
use Rattle.std.specs.List.{IsDistinct, sum_by}
use Rattle.controller_model.specs.Step.{Step, HostOctet, TurnBegins, PacketHeard, NothingHeard, TurnEnds}
use Rattle.controller_model.specs.Side.{notes_of}
use Rattle.run_model.specs.History.{Event, TurnBegan, HostFed, Called, Noted, Transmitted, past_of, noted_by, turns_begun}
use Rattle.run_model.specs.Run.{Given, Plan, setup_at}

-- no station has two places in the order
abbrev pub AreDistinct : List ℕ → Type 0
AreDistinct stations = IsDistinct (λ one other. one == other) stations

-- how many octets these turns feed to a station, at most
abbrev pub feed_total : ℕ → List Plan → ℕ
feed_total station plans = sum_by (λ plan. plan.feed_of station) plans

-- all that the turns that began feed to a station, up to the end of its stream
abbrev pub feeds_at : Given → ℕ → List Event → List ℕ
feeds_at given station history =
    take (feed_total station (take (turns_begun history) given.plans)) (given.station_of station).stream

abbrev pub is_octet : Step → Bool
is_octet (HostOctet octet) = true
is_octet (TurnBegins slot on) = false
is_octet (PacketHeard octets) = false
is_octet NothingHeard = false
is_octet TurnEnds = false

-- octets that a host sends, a call with one of them, and notes
abbrev pub is_of_feeding : Event → Bool
is_of_feeding (TurnBegan slot radios) = false
is_of_feeding (HostFed station octets) = true
is_of_feeding (Called station step) = is_octet step
is_of_feeding (Noted station note) = true
is_of_feeding (Transmitted station channel octets hearings) = false

abbrev pub is_note : Event → Bool
is_note (Noted station note) = true
is_note (TurnBegan slot radios) = false
is_note (HostFed station octets) = false
is_note (Called station step) = false
is_note (Transmitted station channel octets hearings) = false

-- a station has noted what the calls on its controller give, and nothing else
abbrev pub HasNoted : Given → ℕ → List Event → Type 0
HasNoted given station history =
    noted_by station history ≡ notes_of (setup_at given station) (past_of station history)
