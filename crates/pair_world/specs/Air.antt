-- A packet of one station on its way to the other (our choice).
use Rattle.std.specs.Prelude.{◌≡◌, ℕ, ◌+◌, ◌&&◌, not, Bool, true, false, List, [], ◌∷◌, None, ⊤, if◌then◌else◌}
use Rattle.std.specs.Str.{bytes_eq}
use Rattle.ble_base.specs.declared.roles.Side.{Side}
use Rattle.ble_base.specs.declared.roles.Side.TheVariants.{A}
use Rattle.ble_base.specs.declared.verdicts.Verdict.{Verdict}
use Rattle.ble_base.specs.Side.{other_side}
use Rattle.journal.specs.declared.entries.Entry.TheVariants.{Air}
use Rattle.radio_replay.specs.declared.fates.Fate.{Fate}
use Rattle.radio_replay.specs.Damage.{damaged_packet}
use Rattle.controller_model.specs.Facts.{Setup, Use}
use Rattle.controller_model.specs.Packets.{channel_listened, use_of}
use Rattle.controller_model.specs.Step.{Step}
use Rattle.controller_model.specs.Side.{facts_of}
use Rattle.run_model.specs.History.{Event, is_good, turns_begun, packets_on_air, fates_used, packet_received}
use Rattle.run_model.specs.Journal.{mark_of}
use Rattle.run_model.specs.Links.{begins_link}
use Rattle.run_model.specs.Run.{Given, reaches, use_at, verdict_where}
use Rattle.pair_world.specs.declared.stops.Stop.{Stop}
use Rattle.pair_world.specs.declared.stops.Stop.TheVariants.{Unseen, Memory}
use Rattle.pair_world.specs.Logs.{LogState, with_entries}
use Rattle.pair_world.specs.Stations.{StationState, Keeps, Writes, number_of}
use Rattle.pair_world.specs.Wishes.{handed_of}

-- ---- the verdict

-- the verdict of a listener on a packet that is on the air with this fate
abbrev pub verdict_by : Fate → Setup → List Step → ℕ → List ℕ → Verdict
verdict_by fate setup past channel octets =
    verdict_where (reaches fate channel (channel_listened (use_of (facts_of setup past)))) (facts_of setup past)
    (damaged_packet fate octets)

-- the packet is changed, and has the verdict good
abbrev pub goes_unseen : Fate → Verdict → List ℕ → Bool
goes_unseen fate verdict octets = is_good verdict && not (bytes_eq (damaged_packet fate octets) octets)

-- this is the verdict, and no change goes unseen
pub record IsReceived (fate : Fate) (setup : Setup) (past : List Step) (channel : ℕ) (octets : List ℕ)
    (verdict : Verdict) : Type 0 where
  pub verdict_is : verdict ≡ verdict_by fate setup past channel octets
  pub is_seen : goes_unseen fate verdict octets ≡ false

-- a change goes unseen, at this place of the turn
pub record IsUnseen (fate : Fate) (setup : Setup) (past : List Step) (channel : ℕ) (octets : List ℕ)
    (place packet : ℕ) (sent heard : List ℕ) : Type 0 where
  pub packet_is : packet ≡ place
  pub sent_is : sent ≡ octets
  pub heard_is : heard ≡ damaged_packet fate octets
  pub is_unseen : goes_unseen fate (verdict_by fate setup past channel octets) octets ≡ true

-- that is why the run stops, or there is no memory
abbrev pub IsUnseenOr : Fate → Setup → List Step → ℕ → List ℕ → ℕ → Stop → Type 0
IsUnseenOr fate setup past channel octets place Memory = ⊤
IsUnseenOr fate setup past channel octets place (Unseen unseen) =
    IsUnseen fate setup past channel octets place unseen.packet unseen.sent.items unseen.heard.items

-- ---- the numbers of links

abbrev pub with_last : ℕ → StationState → StationState
with_last link state = record state { links = record state.links { last = link } }

-- where a packet begins a link, its sender knows that, and the listener too where it received the packet
pub record HasLinked (begins good : Bool) (sender listener : StationState) (log : LogState)
    (new_sender new_listener : StationState) (new_log : LogState) : Type 0 where
  pub sender_is : new_sender ≡ (if begins then with_last (log.links + 1) sender else sender)
  pub listener_is : new_listener ≡ (if begins && good then with_last (log.links + 1) listener else listener)
  pub log_is : new_log ≡ (if begins then record log { links = log.links + 1 } else log)

-- a packet was on the air: this is its entry, and the numbers of links are up to it
pub record IsSent (fate : Fate) (side : Side) (setup : Setup) (past : List Step) (channel : ℕ) (octets : List ℕ)
    (verdict : Verdict) (sender listener : StationState) (log : LogState) (new_sender new_listener : StationState)
    (new_log : LogState) : Type 0 where
  pub is_seen : goes_unseen fate (verdict_by fate setup past channel octets) octets ≡ false
  pub verdict_is : verdict ≡ verdict_by fate setup past channel octets
  pub linked : HasLinked (begins_link channel octets) (is_good verdict) sender listener
      (with_entries (Air side channel octets (mark_of fate) (verdict_by fate setup past channel octets) ∷ []) log)
      new_sender new_listener new_log

-- ---- a packet of a side

-- in a phase: both stations are up to this history and want this, and this number of packets were on the air in this
-- turn
pub record InAir (given : Given) (slot : ℕ) (history : List Event) (side : Side) (sender listener : StationState)
    (log : LogState) (wanted listens : Use) (packets : ℕ) : Type 0 where
  pub stations_are : given.stations ≡ 0 ∷ 1 ∷ []
  pub keeps_sender : Keeps given (number_of side) history sender
  pub keeps_listener : Keeps given (number_of (other_side side)) history listener
  pub writes : Writes history log
  pub wants_sender : wanted ≡ use_at given (number_of side) history
  pub wants_listener : listens ≡ use_at given (number_of (other_side side)) history
  pub turns_are : turns_begun history ≡ slot + 1
  pub fates_are : fates_used history ≡ packets
  pub packets_are : packets_on_air history ≡ packets

-- what a side wanted to transmit was on the air, if it wanted to, with this fate, and the other one has this verdict on it
pub record HasFlown (given : Given) (slot : ℕ) (before : List Event) (side : Side) (sender listener : StationState)
    (log : LogState) (wanted listens : Use) (packets : ℕ) (fate : Fate) (verdict : Verdict)
    (after : List Event) : Type 0 where
  pub air : InAir given slot after side sender listener log wanted listens packets
  pub own : packet_received (number_of side) after ≡ packet_received (number_of side) before
  pub other : packet_received (number_of (other_side side)) before ≡ None
      → packet_received (number_of (other_side side)) after ≡ handed_of fate verdict wanted

-- a phase begins
pub record InPhase (given : Given) (slot : ℕ) (a b : StationState) (log : LogState) (wanted_a wanted_b : Use)
    (packets : ℕ) (history : List Event) : Type 0 where
  pub air : InAir given slot history A a b log wanted_a wanted_b packets
  pub received_a : packet_received 0 history ≡ None
  pub received_b : packet_received 1 history ≡ None
