-- While nothing is decided by the lines of a side, no packet was on the air in the turn that is under way.
use Rattle.std.proofs.Common.{◌≡◌, ℕ, Bool, true, false, Option, Some, None, List, [], ◌∷◌, ◌++◌, refl, sym, ◌∙◌}
use Rattle.std.specs.Prelude.{fold}
use Rattle.ble_base.specs.declared.roles.Role.{Role}
use Rattle.ble_base.specs.declared.roles.Role.TheVariants.{Central, Peripheral}
use Rattle.ble_base.specs.declared.roles.Side.{Side}
use Rattle.host_answers.specs.Answered.{accepted_in}
use Rattle.journal.specs.declared.entries.Entry.{Entry}
use Rattle.journal.specs.declared.entries.Entry.TheVariants.{Air, Enter, Opened, Shut, Turn, Up}
use Rattle.slot_plan.specs.declared.Activity.{Activity}
use Rattle.slot_plan.specs.declared.Activity.TheVariants.{Advertise, Initiate, Link, Scan}
use Rattle.slot_plan.specs.Holding.{is_held_in}
use Rattle.journal_events.specs.journal_sending.controller_model.declared.doing.Doing.{Doing}
use Rattle.journal_events.specs.journal_sending.journal_controls.LineSteps.{turn_now}
use Rattle.journal_events.specs.journal_sending.journal_controls.journal_ends.Asked.{Words}
use Rattle.journal_events.specs.journal_sending.journal_packets.Belonging.{is_side}
use Rattle.journal_events.specs.journal_sending.run_model.Readers.{turn_packets, turn_packets_after}
use Rattle.journal_wants.specs.Station.{Linked, Setups, Station, decided_if, first_station, line_if, linked_under, opened_as, own_line, served_in, station_after, station_from, station_on, winner_in, won_by}
use Rattle.journal_wants.proofs.StationLines.{commanded_leaves}

-- ---- a packet decides what the side does first

won_some : (linked : ℕ → Linked) (slot : ℕ) (winner : Option Activity) (station : Station)
    → (won_by linked slot winner station).doing ≡ None → ⊥
won_some linked slot None station none = absurd cc
won_some linked slot (Some (Link handle)) station none = absurd cc
won_some linked slot (Some Advertise) station none = absurd cc
won_some linked slot (Some Scan) station none = absurd cc
won_some linked slot (Some Initiate) station none = absurd cc

served_some : (on held : Bool) (linked : ℕ → Linked) (slot : ℕ) (station : Station)
    → (served_in on held linked slot station).doing ≡ None → ⊥
served_some false held linked slot station none = absurd cc
served_some true true linked slot station none = absurd cc
served_some true false linked slot station none = won_some linked slot (winner_in slot station) station none

-- ---- other lines leave it

line_doing : (own : Bool) (change : Station → Station) (station : Station) → (change station).doing ≡ station.doing
    → (line_if own change station).doing ≡ station.doing
line_doing true change station same = same
line_doing false change station same = refl

opened_doing : (role : Role) (station : Station) → (opened_as role station).doing ≡ station.doing
opened_doing Central station = refl
opened_doing Peripheral station = refl

module _ (words : Words) (setups : Setups) (side : Side) where
  decided_some : (may : Option Doing) (front : List Entry) (station : Station) → station.doing ≡ may
      → (decided_if may words side front station).doing ≡ None → ⊥
  decided_some None front station is none =
      served_some station.on (is_held_in station.radio.hold (turn_now front)) (linked_under words side front)
      (turn_now front) station none
  decided_some (Some doing) front station is none = absurd (let h : Some doing ≡ None = sym is ∙ none in absurd cc)

  after_silent : (front : List Entry) (station : Station) (line : Entry) (count : ℕ)
      → (station.doing ≡ None → count ≡ 0)
      → (station_after words setups side front station line).doing ≡ None → turn_packets_after count line ≡ 0
  after_silent front station (Turn slot a_on b_on) count is none = refl
  after_silent front station (Air sender channel octets fate verdict) count is none =
      absurd (decided_some station.doing front station refl none)
  after_silent front station (Up other octets) count is none =
      is (sym (commanded_leaves (λ s. s.doing) (setups side) (turn_now front) (λ s command. refl)
      (accepted_in side front (Up other octets)) station) ∙ none)
  after_silent front station (Enter other link event channel) count is none =
      is (sym (line_doing (is_side other side) (own_line words side link front (Enter other link event channel)) station
      refl) ∙ none)
  after_silent front station (Shut other link reason) count is none =
      is (sym (line_doing (is_side other side) (own_line words side link front (Shut other link reason)) station
      refl) ∙ none)
  after_silent front station (Opened other link handle role) count is none =
      is (sym (line_doing (is_side other side) (own_line words side link front (Opened other link handle role)) station
      (opened_doing role station)) ∙ none)
  after_silent front station line count is none = is none

  lines_silent : (lines front : List Entry) (station : Station) (count : ℕ) → (station.doing ≡ None → count ≡ 0)
      → (station_from words setups side front station lines).doing ≡ None → fold turn_packets_after count lines ≡ 0
  lines_silent [] front station count is none = is none
  lines_silent (line ∷ lines) front station count is none =
      lines_silent lines (front ++ line ∷ []) (station_after words setups side front station line)
      (turn_packets_after count line) (after_silent front station line count is) none

  pub silent_lines : (journal : List Entry)
      → (station_on words setups side journal).doing ≡ None → turn_packets journal ≡ 0
  unfolding station_on
  silent_lines journal none = lines_silent journal [] first_station 0 (λ never. refl) none
