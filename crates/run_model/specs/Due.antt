-- What is due in a run, given what happened before it (our choice).
use Rattle.std.specs.Prelude.{◌≡◌, ℕ, ◌+◌, ◌-◌, ◌<◌, Bool, List, [], ◌∷◌, ◌++◌, length, take, map, flat_map, Option, Some, None, slice_get, ⊤}
use Rattle.controller_model.specs.Step.{Step, HostOctet, TurnBegins, PacketHeard, NothingHeard, TurnEnds}
use Rattle.controller_model.specs.Facts.{Use, Sends, Listens, Idle}
use Rattle.run_model.specs.History.{Event, TurnBegan, HostFed, Called, Noted, Transmitted, Hearing, past_of, fed_to, turns_begun, packet_received}
use Rattle.run_model.specs.Run.{Given, Plan, use_at, octets_left, hearings_of, unseen_in}

-- each of these events, which come after this history, has the fact
abbrev pub Each : (List Event → Event → Type 0) → List Event → List Event → Type 0
Each fact history [] = ⊤
Each fact history (event ∷ events) = fact history event × Each fact (history ++ event ∷ []) events

-- the plan of the turn that began last
abbrev pub plan_at : Given → List Event → Option Plan
plan_at given history = slice_get given.plans (turns_begun history - 1)

-- the octets of its host among the calls of a past
abbrev pub octet_in : Step → List ℕ
octet_in (HostOctet octet) = octet ∷ []
octet_in (TurnBegins slot on) = []
octet_in (PacketHeard octets) = []
octet_in NothingHeard = []
octet_in TurnEnds = []

abbrev pub octets_called : ℕ → List Event → List ℕ
octets_called station history = flat_map octet_in (past_of station history)

-- a turn begins: the next of the schedule, with the radios as it says
pub record IsTurnDue (given : Given) (history : List Event) (slot : ℕ) (radios : List Bool) : Type 0 where
  pub slot_is : slot ≡ turns_begun history
  pub plan : Plan
  pub is_next : slice_get given.plans slot ≡ Some plan
  pub radios_are : radios ≡ map plan.radio_of given.stations

-- a host sends octets: those that the turn feeds to its station, or as many as are left, and at least one
pub record IsFeedDue (given : Given) (history : List Event) (station : ℕ) (octets : List ℕ) : Type 0 where
  pub plan : Plan
  pub is_now : plan_at given history ≡ Some plan
  pub octets_are : octets ≡ take (plan.feed_of station) (octets_left given station history)
  pub is_some : 0 < length octets

-- a packet is on the air: its station wants to transmit it, each other station has the next fate of the turn and judges
-- what the fate leaves of it, and no change goes unseen
pub record IsPacketDue (given : Given) (history : List Event) (station channel : ℕ) (octets : List ℕ)
    (hearings : List Hearing) : Type 0 where
  pub plan : Plan
  pub is_now : plan_at given history ≡ Some plan
  pub is_wanted : use_at given station history ≡ Sends channel octets
  pub hearings_are : hearings ≡ hearings_of given plan.fates station channel octets history
  pub is_seen : unseen_in octets hearings ≡ None

-- a controller begins its turn: the one that began last, with its radio as the schedule says
pub record IsBeginDue (given : Given) (history : List Event) (station slot : ℕ) (on : Bool) : Type 0 where
  pub slot_is : turns_begun history ≡ slot + 1
  pub plan : Plan
  pub is_now : plan_at given history ≡ Some plan
  pub radio_is : on ≡ plan.radio_of station

-- a call on a controller: the next octet that its host sent; the turn that began; the packet that it received since its
-- last call, or that it received none
abbrev pub IsCallDue : Given → List Event → ℕ → Step → Type 0
IsCallDue given history station (HostOctet octet) =
    slice_get (fed_to station history) (length (octets_called station history)) ≡ Some octet
IsCallDue given history station (TurnBegins slot on) = IsBeginDue given history station slot on
IsCallDue given history station (PacketHeard octets) = packet_received station history ≡ Some octets
IsCallDue given history station NothingHeard = packet_received station history ≡ None
IsCallDue given history station TurnEnds = ⊤

abbrev pub IsDue : Given → List Event → Event → Type 0
IsDue given history (TurnBegan slot radios) = IsTurnDue given history slot radios
IsDue given history (HostFed station octets) = IsFeedDue given history station octets
IsDue given history (Called station step) = IsCallDue given history station step
IsDue given history (Noted station note) = ⊤
IsDue given history (Transmitted station channel octets hearings) =
    IsPacketDue given history station channel octets hearings

-- ---- nothing that is due is missing

-- the packets that a station transmitted since the last call on its controller
abbrev pub packet_in : Use → List (ℕ × List ℕ)
packet_in (Sends channel octets) = (channel, octets) ∷ []
packet_in (Listens channel) = []
packet_in Idle = []
