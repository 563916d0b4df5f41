-- Which events of a link a peripheral skips, by what it heard and by the indications of its central: those after the
-- event in which it heard a good packet last, up to the latency that is in force in them, while it is idle (Core 5.2,
-- volume 6 part B, sections 4.5.1 and 5.1.1; that it always does so, and when it is idle, is our choice).
use Rattle.std.specs.Prelude.{◌≡◌, ℕ, ◌+◌, ◌==◌, ◌&&◌, nat_le, nat_lt, not, Bool, false, List, [], ◌∷◌, ◌++◌, Option, Some, None, if◌then◌else◌}
use Rattle.std.specs.List.{flat_map}
use Rattle.ble_base.specs.declared.roles.Role.{Role}
use Rattle.ble_base.specs.declared.roles.Role.TheVariants.{Central, Peripheral}
use Rattle.ble_base.specs.declared.roles.Side.{Side}
use Rattle.instants.specs.Parameters.{params_in}
use Rattle.journal.specs.declared.entries.Entry.{Entry}
use Rattle.journal.specs.declared.entries.Entry.TheVariants.{Air, Enter}
use Rattle.journal_events.specs.Skips.{is_idle_on, is_skipped}
use Rattle.journal_events.specs.journal_leaving.journal_acks.Shut.{is_of_link}
use Rattle.journal_events.specs.journal_leaving.journal_controls.LineSteps.{keyed_on}
pub use Rattle.journal_events.specs.journal_leaving.journal_controls.journal_ends.Asked.{Words}
use Rattle.journal_events.specs.journal_leaving.journal_links.Begun.{LinkBegun, link_numbered}
use Rattle.journal_events.specs.journal_leaving.journal_links.Changes.{changes_of, role_on}
use Rattle.journal_events.specs.journal_leaving.journal_packets.Belonging.{is_side}
use Rattle.journal_events.specs.journal_leaving.link_model.Setup.{first_params}
use Rattle.journal_events.specs.journal_leaving.link_model.keyed_control.Keyed.{Keyed}
use Rattle.journal_events.specs.journal_leaving.run_model.History.{is_good}
use Rattle.journal_rules.specs.Since.{is_own, opens_at, since}

-- ---- the events that it entered, and those in which it heard a good packet

abbrev pub event_in : Side → ℕ → Entry → List ℕ
event_in side number (Enter other link event channel) = if is_own side number other link then event ∷ [] else []
event_in side number line = []

-- since it opened the link, in order
abbrev pub events_entered : Side → ℕ → List Entry → List ℕ
events_entered side number front = flat_map (event_in side number) (since (opens_at side number) front)

-- the last of them, and 0 before the first one (our choice)
abbrev pub last_number : List ℕ → ℕ
last_number [] = 0
last_number (event ∷ []) = event
last_number (event ∷ next ∷ events) = last_number (next ∷ events)

abbrev pub last_event : Side → ℕ → List Entry → ℕ
last_event side number front = last_number (events_entered side number front)

-- a packet of the other side on the link, which this side judges good
abbrev pub hears_at : Side → ℕ → List Entry → Entry → Bool
hears_at side number front (Air sender channel octets fate verdict) =
    is_of_link number front sender channel octets && (not (is_side sender side) && is_good verdict)
hears_at side number front line = false

-- for each such packet since it opened the link, the event that it had entered last
abbrev pub heard_after : Side → ℕ → List Entry → List ℕ → Entry → List ℕ
heard_after side number front heard line =
    if opens_at side number line
    then []
    else heard ++ (if hears_at side number front line then last_event side number front ∷ [] else [])

abbrev pub heard_from : Side → ℕ → List Entry → List ℕ → List Entry → List ℕ
heard_from side number front heard [] = heard
heard_from side number front heard (line ∷ lines) =
    heard_from side number (front ++ line ∷ []) (heard_after side number front heard line) lines

unfoldable pub events_heard : Side → ℕ → List Entry → List ℕ
events_heard side number journal = heard_from side number [] [] journal

abbrev pub last_heard : List ℕ → Option ℕ
last_heard [] = None
last_heard (event ∷ events) = Some (last_number (event ∷ events))

-- ---- the latency

-- that of the CONNECT_IND, changed in order by the indications of the central in force at this side whose event has come
abbrev pub latency_in : ℕ → LinkBegun → Side → List Entry → ℕ → ℕ
latency_in number link side front event =
    (params_in (first_params link.fields) (changes_of number link side front) event).latency

-- ---- the rule

-- an idle peripheral that heard a good packet last in this event skips the ones after it, up to the latency
abbrev pub skips_after : Role → Option ℕ → (event latency : ℕ) → Bool → Bool
skips_after Central heard event latency idle = false
skips_after Peripheral None event latency idle = false
skips_after Peripheral (Some heard) event latency idle = (nat_lt heard event && nat_le event (heard + latency)) && idle

-- so a side does with the event of the line that comes after these entries
abbrev pub skips_in_words : Words → ℕ → LinkBegun → Side → List Entry → (event channel : ℕ) → Bool
skips_in_words words number link side front event channel =
    skips_after (role_on link side) (last_heard (events_heard side number front)) event
    (latency_in number link side front event)
    (is_idle_on words side number (front ++ Enter side number event channel ∷ []))

abbrev pub AllSkipInWords : Words → List Entry → Type 0
AllSkipInWords words journal = (front rest : List Entry) (side : Side) (number event channel : ℕ) (link : LinkBegun)
    → journal ≡ front ++ Enter side number event channel ∷ rest → link_numbered number front ≡ Some link
    → is_skipped words side number (front ++ Enter side number event channel ∷ [])
    ≡ skips_in_words words number link side front event channel

-- ---- the latency of the end of a side is that by the indications

-- an end that enters this event after these entries has that latency in it
pub record HasLatency (words : Words) (front : List Entry) (side : Side) (number event channel : ℕ) (link : LinkBegun) : Type 0 where
  pub end : Keyed
  pub is_end : keyed_on words side number (front ++ Enter side number event channel ∷ []) ≡ Some end
  pub latency : end.phased.control.track.params.latency ≡ latency_in number link side front event

abbrev pub AllHaveLatency : Words → List Entry → Type 0
AllHaveLatency words journal = (front rest : List Entry) (side : Side) (number event channel : ℕ) (link : LinkBegun)
    → journal ≡ front ++ Enter side number event channel ∷ rest → link_numbered number front ≡ Some link
    → HasLatency words front side number event channel link
