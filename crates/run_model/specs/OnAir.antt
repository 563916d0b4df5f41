-- Who transmits in a phase, and what, in words that need no account of the run (our choice).
use Rattle.std.specs.Prelude.{◌≡◌, ◌≢◌, ℕ, ◌+◌, ◌==◌, Bool, true, false, List, [], ◌∷◌, ◌++◌, fold, Some, if◌then◌else◌}
use Rattle.std.specs.List.{AllByRecursion, Contains}
use Rattle.ble_base.specs.declared.verdicts.Verdict.TheVariants.{Good}
use Rattle.radio_replay.specs.Damage.{damaged_packet}
use Rattle.controller_model.specs.Step.{Step, HostOctet, TurnBegins, PacketHeard, NothingHeard, TurnEnds}
use Rattle.controller_model.specs.Facts.{Sends}
use Rattle.controller_model.specs.Packets.{verdict_of}
use Rattle.run_model.specs.History.{Event, TurnBegan, HostFed, Called, Noted, Transmitted, Hearing, one_if, turns_begun, packets_on_air}
use Rattle.run_model.specs.Run.{Given, Plan, Stop, facts_at, use_at, hearings_of}
use Rattle.run_model.specs.Due.{packet_in, plan_at}

-- ---- nothing that is due is missing

-- the packets that a station transmitted since the last call on its controller, each with its channel
abbrev pub transmitted_after : ℕ → List (ℕ × List ℕ) → Event → List (ℕ × List ℕ)
transmitted_after station before (Called other step) = if station == other then [] else before
transmitted_after station before (Transmitted other channel octets hearings) =
    before ++ one_if (station == other) (channel, octets)
transmitted_after station before (TurnBegan slot radios) = before
transmitted_after station before (HostFed other octets) = before
transmitted_after station before (Noted other note) = before

unfoldable pub transmitted_since : ℕ → List Event → List (ℕ × List ℕ)
transmitted_since station history = fold (transmitted_after station) [] history

-- the call that ends a phase of a station: with the packet that it heard, or with none
abbrev pub ends_phase : Step → Bool
ends_phase (PacketHeard octets) = true
ends_phase NothingHeard = true
ends_phase (HostOctet octet) = false
ends_phase (TurnBegins slot on) = false
ends_phase TurnEnds = false

-- it is for this station to transmit: in the phase those before it in the order have transmitted just what they want
-- to, and it and those after it nothing
pub record IsNextOnAir (given : Given) (history : List Event) (station : ℕ) : Type 0 where
  pub earlier : List ℕ
  pub later : List ℕ
  pub stations_are : given.stations ≡ earlier ++ station ∷ later
  pub are_done :
      AllByRecursion (λ other. transmitted_since other history ≡ packet_in (use_at given other history)) earlier
  pub are_left : AllByRecursion (λ other. transmitted_since other history ≡ []) (station ∷ later)

-- ---- a stop

-- the next packet is one that its sender wants to transmit, in the turn that began last and at this place of it; what
-- is heard is what its fate leaves of it at another station, which would judge that good; and it is not what was sent
pub record IsUnseenStop (given : Given) (history : List Event) (stop : Stop) : Type 0 where
  pub plan : Plan
  pub is_now : plan_at given history ≡ Some plan
  pub slot_is : turns_begun history ≡ stop.slot + 1
  pub place_is : stop.place ≡ packets_on_air history + 1
  pub is_wanted : use_at given stop.sender history ≡ Sends stop.channel stop.sent
  pub hearing : Hearing
  pub is_one : Contains (hearings_of given plan.fates stop.sender stop.channel stop.sent history) hearing
  pub is_other : hearing.listener ≢ stop.sender
  pub verdict_is : hearing.verdict ≡ Good
  pub heard_is : stop.heard ≡ damaged_packet hearing.fate stop.sent
  pub is_good : verdict_of (facts_at given hearing.listener history) stop.heard ≡ Good
  pub differs : stop.heard ≢ stop.sent
