-- An advertiser that is left on (Core 5.2, volume 6 part B, section 4.4.2.2). No delay is added (our choice).
use Rattle.std.specs.Prelude.{◌≡◌, ℕ, zero, suc, ◌+◌, ◌≤◌, ◌%◌, nat_lt, true, false, Option, Some, None, is_some, if◌then◌else◌}
use Rattle.std.specs.List.{list_any}
use Rattle.advertise.specs.Advertising.{AdvertiserFacts, event_channel}
use Rattle.slot_plan.specs.Holding.{is_held_in}
use Rattle.controller_model.specs.declared.doing.Doing.{Doing}
use Rattle.controller_model.specs.declared.doing.Doing.TheVariants.{Scans}
use Rattle.controller_model.specs.Facts.{Facts}
use Rattle.controller_model.specs.Outcome.{facts_passed}
use Rattle.controller_model.specs.Radio.{advertises_on, initiates_on, initiator_channel, outcome_begun, scanner_channel}

-- the place in an event, this number of slots after the start of the first one: an event takes the first three slots of
-- each interval
abbrev pub place_within : ℕ → ℕ → Option ℕ
place_within interval slots = if nat_lt (slots % interval) 3 then Some (slots % interval) else None

-- what a controller holds in the first phase of a turn in this slot, with its radio on
abbrev pub facts_in_turn : ℕ → Facts → Facts
facts_in_turn slot facts = facts_passed (outcome_begun slot true facts)

-- turns of a controller without a link, in one slot after another from this one on, by what it holds before each: an
-- event of the advertiser is due in the first, in which nothing holds the radio, and between two turns neither the
-- advertiser nor the hold on the radio changes
pub record IsLeftOn (start : ℕ) (advertiser : AdvertiserFacts) (turns : ℕ → Facts) : Type 0 where
  pub no_link : (n : ℕ) → list_any is_some (turns n).links ≡ false
  pub first : (turns 0).advertising.on ≡ Some advertiser
  pub due : advertiser.due ≤ start
  pub free : is_held_in (turns 0).radio.hold start ≡ false
  pub stays_on : (n : ℕ) → (turns (suc n)).advertising.on ≡ (facts_in_turn (start + n) (turns n)).advertising.on
  pub radio_stays : (n : ℕ) → (turns (suc n)).radio ≡ (facts_in_turn (start + n) (turns n)).radio

-- the same where nothing happens between turns
abbrev pub turns_from : ℕ → Facts → ℕ → Facts
turns_from start facts zero = facts
turns_from start facts (suc n) = facts_in_turn (start + n) (turns_from start facts n)

-- between events: the scanner listens in its windows, and else the initiator in its own
abbrev pub scans_or : Option ℕ → Option ℕ → Doing
scans_or None initiating = initiates_on initiating
scans_or (Some channel) initiating = Scans channel

abbrev pub doing_between : ℕ → Facts → Doing
doing_between slot facts = scans_or (scanner_channel slot facts.scanning.on) (initiator_channel slot facts.initiator)

-- at a place of an event, on its channel; on a channel that the host left out it does nothing
abbrev pub doing_at : Doing → ℕ → Option ℕ → Doing
doing_at otherwise channels None = otherwise
doing_at otherwise channels (Some place) = advertises_on (event_channel channels place)
