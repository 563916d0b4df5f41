-- What a side does first in a turn, as its lines decide it: once, as the first packet is on the air, or as the next turn
-- begins.
use Rattle.std.proofs.Common.{◌≡◌, ℕ, Bool, true, false, Option, Some, None, List, [], ◌∷◌, ◌++◌, refl, sym, ap, subst, ◌∙◌}
use Rattle.ble_base.specs.declared.roles.Side.{Side}
use Rattle.journal.specs.declared.entries.Entry.{Entry}
use Rattle.slot_plan.specs.declared.Activity.{Activity}
use Rattle.slot_plan.specs.Holding.{is_held_in, winner_of}
use Rattle.journal_events.specs.journal_sending.controller_model.declared.doing.Doing.{Doing}
use Rattle.journal_events.specs.journal_sending.controller_model.declared.doing.Doing.TheVariants.{Connects}
use Rattle.journal_events.specs.journal_sending.controller_model.Entering.{all_entered, wants_from}
use Rattle.journal_events.specs.journal_sending.controller_model.Facts.{Facts, Setup}
use Rattle.journal_events.specs.journal_sending.controller_model.Heard.{unheard}
use Rattle.journal_events.specs.journal_sending.controller_model.Links.{facts_ending}
use Rattle.journal_events.specs.journal_sending.controller_model.Outcome.{facts_passed, notes_passed}
use Rattle.journal_events.specs.journal_sending.controller_model.Radio.{plan_in, turn_begins}
use Rattle.journal_events.specs.journal_sending.controller_model.Side.{facts_after, notes_after}
use Rattle.journal_events.specs.journal_sending.controller_model.Step.{NothingHeard, TurnBegins}
use Rattle.journal_events.specs.journal_sending.journal_controls.LineSteps.{turn_now}
use Rattle.journal_events.specs.journal_sending.journal_controls.journal_ends.Asked.{Words}
use Rattle.journal_events.specs.journal_sending.journal_data.Held.{links_open}
use Rattle.journal_events.specs.journal_sending.journal_data.HostLines.{link_under}
use Rattle.journal_events.specs.journal_sending.journal_links.Begun.{links_begun, with_number}
use Rattle.journal_events.specs.journal_sending.run_model.History.{Event, Hearing, TurnBegan, Transmitted}
use Rattle.journal_events.specs.journal_sending.run_model.Journal.{journal_of, radio_in, side_of}
use Rattle.journal_events.proofs.journal_sending.run_model.Parts.{journal_event}
use Rattle.journal_events.specs.EventLines.{event_on}
use Rattle.journal_wants.specs.Station.{Linked, Setups, Station, decided_if, is_on, linked_under, linked_with, role_by, served_in, station_deciding, station_on, turn_begun}
use Rattle.journal_wants.proofs.HostSet.{IsSetAs}
use Rattle.journal_wants.proofs.NotedStation.{at}
use Rattle.journal_wants.proofs.SlotGiven.{HasLinked}
use Rattle.journal_wants.proofs.StationLines.{station_more}
use Rattle.journal_wants.proofs.TurnBegun.{HasBegun, turn_same}

-- ---- the links that the lines have under handles

-- where lines agree on open links, links begun and events, they agree on a link
pub linked_same : (words : Words) (side : Side) (one other : List Entry) (handle : ℕ) → links_open side one ≡ links_open side other
    → links_begun one ≡ links_begun other → ((number : ℕ) → event_on words side number one ≡ event_on words side number other)
    → linked_under words side one handle ≡ linked_under words side other handle
linked_same words side one other handle opened begun events =
    ap (λ links. linked_with words side one (link_under handle links)) opened ∙ by (link_under handle (links_open side other))
  where
    by : (under : Option ℕ) → linked_with words side one under ≡ linked_with words side other under
    by None = λ i. record { number = None; role = (linked_with words side one None).role; event = events 0 i }
    by (Some number) = λ i. record { number = Some number; role = role_by (with_number number (begun i)) side; event = events number i }

-- ---- what is decided

-- with the slot, and the links under handles
abbrev decided_with : Option Doing → ℕ → (ℕ → Linked) → Station → Station
decided_with (Some doing) slot linked station = station
decided_with None slot linked station = served_in station.on (is_held_in station.radio.hold slot) linked slot station

with_is : (may : Option Doing) (words : Words) (side : Side) (front : List Entry) (station : Station)
    → decided_if may words side front station ≡ decided_with may (turn_now front) (linked_under words side front) station
with_is None words side front station = refl
with_is (Some doing) words side front station = refl

module _ (words : Words) (setups : Setups) (station : ℕ) where
  abbrev side : Side
  side = side_of station

  abbrev on_lines : List Event → Station
  on_lines history = at words setups station history

  abbrev pub deciding : List Event → Station
  deciding history = station_deciding words setups side (journal_of history)

  -- what is decided stays
  pub stays_decided : (history : List Event) (doing : Doing) → (on_lines history).doing ≡ Some doing → deciding history ≡ on_lines history
  stays_decided history doing is = ap (λ may. decided_if may words side (journal_of history) (on_lines history)) is

  -- and what is not stays open, where the lines after it say nothing of the side
  pub stays_open : (history after : List Event) → on_lines after ≡ on_lines history → turn_now (journal_of after) ≡ turn_now (journal_of history)
      → ((handle : ℕ) → linked_under words side (journal_of after) handle ≡ linked_under words side (journal_of history) handle)
      → deciding after ≡ deciding history
  stays_open history after same turns linked =
      with_is (on_lines after).doing words side (journal_of after) (on_lines after)
      ∙ (λ i. decided_with (same i).doing (turns i) (λ handle. linked handle i) (same i))
      ∙ sym (with_is (on_lines history).doing words side (journal_of history) (on_lines history))

  -- a packet decides it
  pub station_aired : (history : List Event) (sender channel : ℕ) (octets : List ℕ) (hearing : Hearing) (hearings : List Hearing)
      → on_lines (history ++ Transmitted sender channel octets (hearing ∷ hearings) ∷ []) ≡ deciding history
  station_aired history sender channel octets hearing hearings =
      ap (station_on words setups side) (journal_event history (Transmitted sender channel octets (hearing ∷ hearings)))
      ∙ station_more words setups side (journal_of history) _

  -- and so does the next turn
  pub station_turned : (history : List Event) (slot : ℕ) (radios : List Bool)
      → on_lines (history ++ TurnBegan slot radios ∷ []) ≡ turn_begun (is_on side (radio_in 0 radios) (Some (radio_in 1 radios))) (deciding history)
  station_turned history slot radios =
      ap (station_on words setups side) (journal_event history (TurnBegan slot radios))
      ∙ station_more words setups side (journal_of history) _

  -- ---- as the controller begins its turn

  -- from what the lines say after the call
  pub deciding_begun : (slot : ℕ) (on : Bool) (after : List Event) → (on_lines after).on ≡ on → (on_lines after).doing ≡ None → turn_now (journal_of after) ≡ slot
      → deciding after ≡ served_in on (is_held_in (on_lines after).radio.hold slot) (linked_under words side (journal_of after)) slot (on_lines after)
  deciding_begun slot on after is_on none turn =
      let now = on_lines after in
      ap (λ may. decided_if may words side (journal_of after) now) none
      ∙ (λ i. served_in (is_on i) (is_held_in now.radio.hold (turn i)) (linked_under words side (journal_of after)) (turn i) now)

  pub begun_decides : (setup : Setup) (facts : Facts) (slot : ℕ) (on : Bool) (after : List Event) → IsSetAs (on_lines after) (facts_ending slot facts)
      → (on_lines after).wants ≡ wants_from slot 0 (facts_ending slot facts).links → (on_lines after).on ≡ on → (on_lines after).doing ≡ None
      → turn_now (journal_of after) ≡ slot
      → ((activity : Activity) → winner_of (plan_in slot (turn_begins slot (facts_ending slot facts))) slot ≡ Some activity
      → HasLinked (linked_under words side (journal_of after)) (all_entered slot (facts_ending slot facts).links) activity)
      → (is_held_in (facts_ending slot facts).radio.hold slot ≡ true
      → HasLinked (linked_under words side (journal_of after)) (all_entered slot (facts_ending slot facts).links) (facts_ending slot facts).radio.holder)
      → HasBegun (deciding after) (facts_after setup facts (TurnBegins slot on))
  begun_decides setup facts slot on after set wants is_on none turn winner holder =
      subst (λ s. HasBegun s (facts_after setup facts (TurnBegins slot on))) (sym (deciding_begun slot on after is_on none turn))
      (turn_same setup on (linked_under words side (journal_of after)) slot (on_lines after) facts set wants winner holder)

-- ---- a phase in which nothing is heard, of a controller that sends no CONNECT_IND

abbrev pub is_connecting : Doing → Bool
is_connecting (Connects channel link) = true
is_connecting doing = false

-- it notes nothing, and what the lines say of the controller stays
pub record IsSilent (setup : Setup) (facts : Facts) : Type 0 where
  pub none : notes_after setup facts NothingHeard ≡ []
  pub set : (station : Station) → IsSetAs station facts → IsSetAs station (facts_after setup facts NothingHeard)
  pub later : is_connecting (facts_after setup facts NothingHeard).turn.doing ≡ false

pub unheard_silent : (setup : Setup) (facts : Facts) → is_connecting facts.turn.doing ≡ false → IsSilent setup facts
unheard_silent setup facts connects =
    let silent = by facts.turn.doing connects in record { none = silent.0; set = silent.1; later = silent.2 }
  where
    by : (doing : Doing) → is_connecting doing ≡ false
        → (notes_passed (unheard doing facts) ≡ []) × ((station : Station) → IsSetAs station facts → IsSetAs station (facts_passed (unheard doing facts)))
        × (is_connecting (facts_passed (unheard doing facts)).turn.doing ≡ false)
    by (Connects channel link) none = absurd cc
    by doing none =
        (refl, (λ station is. record { set = is.set; advertising = is.advertising; scanning = is.scanning; initiator = is.initiator; radio = is.radio }), refl)
