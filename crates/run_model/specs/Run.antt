-- A run of any number of stations, step by step: which calls are made, what is on the air, and where damage that no
-- receiver could see ends it (our choice).
use Rattle.std.specs.Prelude.{ℕ, ◌+◌, ◌-◌, ◌==◌, ◌&&◌, not, Bool, true, false, List, [], ◌∷◌, ◌++◌, length, take, drop, map, filter, Option, Some, None, slice_index_or, if◌then◌else◌}
use Rattle.std.specs.Str.{bytes_eq}
use Rattle.ble_base.specs.declared.verdicts.Verdict.{Verdict}
use Rattle.ble_base.specs.declared.verdicts.Verdict.TheVariants.{Missed}
use Rattle.radio_replay.specs.declared.fates.Fate.{Fate}
use Rattle.radio_replay.specs.declared.fates.Fate.TheVariants.{Pass, Lost, Damage}
use Rattle.radio_replay.specs.Damage.{damaged_packet}
use Rattle.controller_model.specs.Step.{Step, HostOctet, TurnBegins, PacketHeard, NothingHeard, TurnEnds}
use Rattle.controller_model.specs.Facts.{Setup, Facts, Use, Sends, Listens, Idle}
use Rattle.controller_model.specs.Packets.{channel_listened, use_of, verdict_of}
use Rattle.controller_model.specs.Side.{facts_of, notes_after}
use Rattle.run_model.specs.History.{Event, TurnBegan, HostFed, Called, Noted, Transmitted, Hearing, past_of, fed_to, turns_begun, packets_on_air, fates_used, is_good, packet_received}

-- ---- what a run is given

pub record Station : Type 0 where
  pub setup : Setup
  -- the octets of its host, whole
  pub stream : List ℕ

-- a turn of the schedule: for each station whether its radio is on and the most octets that it is fed, and the fates in
-- order
pub record Plan : Type 0 where
  pub radio_of : ℕ → Bool
  pub feed_of : ℕ → ℕ
  pub fates : List Fate

pub record Given : Type 0 where
  -- the numbers of the stations, in their order
  pub stations : List ℕ
  pub station_of : ℕ → Station
  pub plans : List Plan

-- ---- a run goes on, or it stops

-- a packet that is changed on its way and that a station would judge good
pub record Stop : Type 0 where
  -- the slot of the turn, and the place of the packet in it, counted from 1
  pub slot : ℕ
  pub place : ℕ
  pub sender : ℕ
  pub channel : ℕ
  pub sent : List ℕ
  pub heard : List ℕ

pub data Run : Type 0 where
  GoesOn : (history : List Event) → Run
  Stops : (history : List Event) (stop : Stop) → Run

abbrev pub and_then : Run → (List Event → Run) → Run
and_then (GoesOn history) next = next history
and_then (Stops history stop) next = Stops history stop

-- ---- the stations at a moment

abbrev pub setup_at : Given → ℕ → Setup
setup_at given station = (given.station_of station).setup

abbrev pub facts_at : Given → ℕ → List Event → Facts
facts_at given station history = facts_of (setup_at given station) (past_of station history)

abbrev pub use_at : Given → ℕ → List Event → Use
use_at given station history = use_of (facts_at given station history)

-- the octets of its host that are left
abbrev pub octets_left : Given → ℕ → List Event → List ℕ
octets_left given station history = drop (length (fed_to station history)) (given.station_of station).stream

-- ---- calls

-- a call on the controller of a station, and what it notes in it
abbrev pub after_call : Given → ℕ → Step → List Event → List Event
after_call given station step history =
    history ++ Called station step
    ∷ map (Noted station) (notes_after (setup_at given station) (facts_at given station history) step)

abbrev pub after_octets : Given → ℕ → List ℕ → List Event → List Event
after_octets given station [] history = history
after_octets given station (octet ∷ octets) history =
    after_octets given station octets (after_call given station (HostOctet octet) history)

-- a station that is fed nothing has no event
abbrev pub after_feed : Given → ℕ → List ℕ → List Event → List Event
after_feed given station [] history = history
after_feed given station (octet ∷ octets) history =
    after_octets given station (octet ∷ octets) (history ++ HostFed station (octet ∷ octets) ∷ [])

-- each of these stations is fed what the turn feeds it, or as many octets as are left
abbrev pub after_feeds : Given → Plan → List ℕ → List Event → List Event
after_feeds given plan [] history = history
after_feeds given plan (station ∷ stations) history =
    after_feeds given plan stations
    (after_feed given station (take (plan.feed_of station) (octets_left given station history)) history)

abbrev pub after_begins : Given → ℕ → Plan → List ℕ → List Event → List Event
after_begins given slot plan [] history = history
after_begins given slot plan (station ∷ stations) history =
    after_begins given slot plan stations
    (after_call given station (TurnBegins slot (plan.radio_of station)) history)

-- a turn opens: all stations are fed, and then all begin it
unfoldable pub after_opening : Given → ℕ → Plan → List Event → List Event
after_opening given slot plan history =
    after_begins given slot plan given.stations
    (after_feeds given plan given.stations
    (history ++ TurnBegan slot (map plan.radio_of given.stations) ∷ []))

-- ---- the air

abbrev pub is_lost : Fate → Bool
is_lost Pass = false
is_lost Lost = true
is_lost (Damage at pattern) = false

-- the fate with this number; packets past the fates of the turn pass
abbrev pub fate_at : List Fate → ℕ → Fate
fate_at fates number = slice_index_or fates number Pass

-- a packet reaches a station that listens on its channel, where it is not lost
abbrev pub reaches : Fate → ℕ → Option ℕ → Bool
reaches fate channel None = false
reaches fate channel (Some listened) = not (is_lost fate) && (listened == channel)

abbrev pub verdict_where : Bool → Facts → List ℕ → Verdict
verdict_where reached facts octets = if reached then verdict_of facts octets else Missed

abbrev pub hearing_at : Given → Fate → ℕ → List ℕ → List Event → ℕ → Hearing
hearing_at given fate channel octets history listener = record {
  listener = listener;
  fate = fate;
  verdict =
      verdict_where (reaches fate channel (channel_listened (use_at given listener history)))
      (facts_at given listener history) (damaged_packet fate octets);
}

-- each listener has the next fate of the turn, from this number on
abbrev pub hearings_from : Given → List Fate → ℕ → ℕ → List ℕ → List Event → List ℕ → List Hearing
hearings_from given fates number channel octets history [] = []
hearings_from given fates number channel octets history (listener ∷ listeners) =
    hearing_at given (fate_at fates number) channel octets history listener
    ∷ hearings_from given fates (number + 1) channel octets history listeners

abbrev pub others_than : ℕ → List ℕ → List ℕ
others_than station stations = filter (λ other. not (other == station)) stations

abbrev pub hearings_of : Given → List Fate → ℕ → ℕ → List ℕ → List Event → List Hearing
hearings_of given fates station channel octets history =
    hearings_from given fates (fates_used history) channel octets history (others_than station given.stations)

-- the octets that a station would hear of a packet that was changed and that it would judge good
abbrev pub is_unseen : List ℕ → Hearing → Bool
is_unseen octets hearing = is_good hearing.verdict && not (bytes_eq (damaged_packet hearing.fate octets) octets)

abbrev pub unseen_in : List ℕ → List Hearing → Option (List ℕ)
unseen_in octets [] = None
unseen_in octets (hearing ∷ hearings) =
    if is_unseen octets hearing then Some (damaged_packet hearing.fate octets) else unseen_in octets hearings

abbrev pub packet_outcome : Option (List ℕ) → ℕ → ℕ → List ℕ → List Hearing → List Event → Run
packet_outcome None station channel octets hearings history =
    GoesOn (history ++ Transmitted station channel octets hearings ∷ [])
packet_outcome (Some heard) station channel octets hearings history =
    Stops history
    (record {
      slot = turns_begun history - 1;
      place = packets_on_air history + 1;
      sender = station;
      channel = channel;
      sent = octets;
      heard = heard;
    })

-- what a station wants to transmit is on the air
abbrev pub packet_with : Use → Given → List Fate → ℕ → List Event → Run
packet_with (Sends channel octets) given fates station history =
    packet_outcome (unseen_in octets (hearings_of given fates station channel octets history)) station channel octets
    (hearings_of given fates station channel octets history) history
packet_with (Listens channel) given fates station history = GoesOn history
packet_with Idle given fates station history = GoesOn history

abbrev pub after_packet : Given → List Fate → ℕ → List Event → Run
after_packet given fates station history = packet_with (use_at given station history) given fates station history

abbrev pub after_packets : Given → List Fate → List ℕ → List Event → Run
after_packets given fates [] history = GoesOn history
after_packets given fates (station ∷ stations) history =
    and_then (after_packet given fates station history) (after_packets given fates stations)

-- ---- what is heard

abbrev pub step_of : Option (List ℕ) → Step
step_of None = NothingHeard
step_of (Some octets) = PacketHeard octets

abbrev pub after_listening : Given → ℕ → List Event → List Event
after_listening given station history =
    after_call given station (step_of (packet_received station history)) history

abbrev pub after_listenings : Given → List ℕ → List Event → List Event
after_listenings given [] history = history
after_listenings given (station ∷ stations) history =
    after_listenings given stations (after_listening given station history)

-- ---- phases, turns, runs

-- all packets of a phase are on the air before any station takes what it heard
unfoldable pub after_phase : Given → List Fate → List Event → Run
after_phase given fates history =
    and_then (after_packets given fates given.stations history)
    (λ then_on. GoesOn (after_listenings given given.stations then_on))

-- a turn has three phases
unfoldable pub after_phases : Given → List Fate → List Event → Run
after_phases given fates history =
    and_then (after_phase given fates history)
    (λ second. and_then (after_phase given fates second) (after_phase given fates))

abbrev pub after_ends : Given → List ℕ → List Event → List Event
after_ends given [] history = history
after_ends given (station ∷ stations) history = after_ends given stations (after_call given station TurnEnds history)

unfoldable pub after_turn : Given → ℕ → Plan → List Event → Run
after_turn given slot plan history =
    and_then (after_phases given plan.fates (after_opening given slot plan history))
    (λ ending. GoesOn (after_ends given given.stations ending))

abbrev pub run_from : Given → ℕ → List Plan → List Event → Run
run_from given slot [] history = GoesOn history
run_from given slot (plan ∷ plans) history =
    and_then (after_turn given slot plan history) (run_from given (slot + 1) plans)

-- the run of all turns of the schedule
unfoldable pub run_of : Given → Run
run_of given = run_from given 0 given.plans []

-- what happened in a run, up to its stop where it stops
abbrev pub history_of : Run → List Event
history_of (GoesOn history) = history
history_of (Stops history stop) = history
