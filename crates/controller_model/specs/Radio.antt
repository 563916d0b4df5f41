-- What wants the radio in a slot, what has it, and what is done in the first phase (Core 5.2, volume 6 part B, sections
-- 4.4.2 to 4.5.1; who has the radio, and for how many slots, is our choice).
use Rattle.std.specs.Prelude.{ℕ, ◌+◌, ◌-◌, nat_le, nat_lt, Bool, true, false, List, [], ◌∷◌, ◌++◌, fold, Option, Some, None, is_some, if◌then◌else◌}
use Rattle.ble_base.specs.declared.roles.Role.{Role}
use Rattle.ble_base.specs.declared.roles.Role.TheVariants.{Central, Peripheral}
use Rattle.ble_base.specs.declared.notes.Note.{Note}
use Rattle.advertise.specs.Advertising.{AdvertiserFacts, due_after, event_channel}
use Rattle.link_commands.specs.open_links.link_model.Times.{has_second_exchange, span_of}
use Rattle.host_view.specs.Noted.{view_noted}
use Rattle.host_view.specs.scan_init.Initiating.{InitiatorFacts}
use Rattle.host_view.specs.scan_init.Reports.{ScannerFacts}
use Rattle.host_view.specs.scan_init.Windows.{scan_channel}
use Rattle.slot_plan.specs.declared.Activity.{Activity}
use Rattle.slot_plan.specs.declared.Activity.TheVariants.{Link, Advertise, Scan, Initiate}
use Rattle.slot_plan.specs.declared.Want.{Want}
use Rattle.slot_plan.specs.declared.plan.Hold.{Hold}
use Rattle.slot_plan.specs.Holding.{PlanFacts, is_held_in, winner_of}
use Rattle.link_commands.specs.open_links.link_model.Step.{PduFixed}
use Rattle.link_commands.specs.open_links.OpenLinks.{Links, OpenLink, facts_in, in_event, link_after, link_at, link_served, with_change}
use Rattle.controller_model.specs.declared.doing.Doing.{Doing}
use Rattle.controller_model.specs.declared.doing.Doing.TheVariants.{Advertises, Scans, Initiates, CentralSends, PeripheralListens, Rests}
use Rattle.controller_model.specs.Entering.{all_entered, notes_all_entering, wants_from}
use Rattle.controller_model.specs.Facts.{Facts, Radio}
use Rattle.controller_model.specs.Links.{facts_ending, notes_ending}
use Rattle.controller_model.specs.Outcome.{Outcome, goes_on}

-- ---- what wants the radio in a slot

-- an advertiser wants each slot from the one on in which its next event is due
abbrev pub advertiser_wants : ℕ → Option AdvertiserFacts → Bool
advertiser_wants slot None = false
advertiser_wants slot (Some on) = nat_le on.due slot

-- a scanner and an initiator want the slots of their windows
abbrev pub scanner_channel : ℕ → Option ScannerFacts → Option ℕ
scanner_channel slot None = None
scanner_channel slot (Some on) = scan_channel on.params.interval on.params.window on.since slot

abbrev pub initiator_channel : ℕ → Option InitiatorFacts → Option ℕ
initiator_channel slot None = None
initiator_channel slot (Some on) = scan_channel on.params.interval on.params.window on.since slot

abbrev pub want_if : Bool → Activity → List Want
want_if false activity = []
want_if true activity = record { activity = activity; last_served = record { 0 = 0 } } ∷ []

-- the links that enter an event and do not skip it, and then the others
abbrev pub wants_in : ℕ → Facts → List Want
wants_in slot facts =
    wants_from slot 0 facts.links
    ++ want_if (advertiser_wants slot facts.advertising.on) Advertise
    ++ want_if (is_some (scanner_channel slot facts.scanning.on)) Scan
    ++ want_if (is_some (initiator_channel slot facts.initiator)) Initiate

abbrev pub plan_in : ℕ → Facts → PlanFacts
plan_in slot facts = record { wants = wants_in slot facts; hold = facts.radio.hold }

-- ---- what is done in the first phase

-- a central sends first, and a peripheral listens (section 4.5.1)
abbrev pub exchange_begins : Role → ℕ → Doing
exchange_begins Central handle = CentralSends handle
exchange_begins Peripheral handle = PeripheralListens handle

abbrev pub exchange_if : Bool → Role → ℕ → Doing
exchange_if true role handle = exchange_begins role handle
exchange_if false role handle = Rests

-- the first exchange of an event is in the slot of its anchor; a link that entered no event yet has none
abbrev pub first_exchange : ℕ → Option OpenLink → Doing
first_exchange handle None = Rests
first_exchange handle (Some link) = exchange_begins link.setup.link.role handle

-- there is a second one where the event continues
abbrev pub second_exchange : ℕ → Option OpenLink → Doing
second_exchange handle None = Rests
second_exchange handle (Some link) = exchange_if (has_second_exchange (facts_in link)) link.setup.link.role handle

abbrev pub advertises_on : Option ℕ → Doing
advertises_on None = Rests
advertises_on (Some channel) = Advertises channel

-- an event of an advertiser has three slots, one for each channel
abbrev pub advertises_at : ℕ → Option AdvertiserFacts → Doing
advertises_at place None = Rests
advertises_at place (Some on) = if nat_lt place 3 then advertises_on (event_channel on.params.channels place) else Rests

abbrev pub scans_on : Option ℕ → Doing
scans_on None = Rests
scans_on (Some channel) = Scans channel

abbrev pub initiates_on : Option ℕ → Doing
initiates_on None = Rests
initiates_on (Some channel) = Initiates channel

-- what wins a slot
abbrev pub doing_won : ℕ → Activity → Facts → Doing
doing_won slot (Link handle) facts = first_exchange handle (in_event (link_at handle facts.links))
doing_won slot Advertise facts = advertises_at 0 facts.advertising.on
doing_won slot Scan facts = scans_on (scanner_channel slot facts.scanning.on)
doing_won slot Initiate facts = initiates_on (initiator_channel slot facts.initiator)

-- what holds a slot since an earlier one
abbrev pub slots_since : ℕ → Option Hold → ℕ
slots_since slot None = 0
slots_since slot (Some hold) = slot - hold.from.0

abbrev pub doing_held : ℕ → Activity → Facts → Doing
doing_held slot (Link handle) facts = second_exchange handle (in_event (link_at handle facts.links))
doing_held slot Advertise facts = advertises_at (slots_since slot facts.radio.hold) facts.advertising.on
doing_held slot Scan facts = Rests
doing_held slot Initiate facts = Rests

-- ---- what is served

abbrev pub radio_held : Activity → ℕ → ℕ → Radio
radio_held activity slot slots =
    record { hold = Some (record { from = record { 0 = slot }; slots = slots }); holder = activity }

abbrev pub advertiser_served : ℕ → AdvertiserFacts → AdvertiserFacts
advertiser_served slot on = record on { due = due_after on.params.interval slot }

abbrev pub served_if_on : ℕ → Option AdvertiserFacts → Option AdvertiserFacts
served_if_on slot None = None
served_if_on slot (Some on) = Some (advertiser_served slot on)

-- the slots for which the event of the link that may be under a handle holds the radio
abbrev pub span_at : Option OpenLink → ℕ
span_at None = 0
span_at (Some link) = span_of (facts_in link)

-- the event of a link, and that of an advertiser, hold the radio; a scanner and an initiator have one slot
abbrev pub facts_won : ℕ → Activity → Facts → Facts
facts_won slot (Link handle) facts = record facts {
  links = with_change handle (link_served slot) facts.links;
  radio = radio_held (Link handle) slot (span_at (link_at handle facts.links));
}
facts_won slot Advertise facts = record facts {
  advertising = record facts.advertising { on = served_if_on slot facts.advertising.on };
  radio = radio_held Advertise slot 3;
}
facts_won slot Scan facts = facts
facts_won slot Initiate facts = facts

-- ---- a turn begins

-- what wins the slot begins, if anything does
abbrev pub winner_served : ℕ → Option Activity → Facts → Outcome
winner_served slot None facts = goes_on facts Rests
winner_served slot (Some activity) facts = goes_on (facts_won slot activity facts) (doing_won slot activity facts)

-- what holds the radio goes on
abbrev pub radio_served : Bool → ℕ → Option Activity → Facts → Outcome
radio_served true slot winner facts = goes_on facts (doing_held slot facts.radio.holder facts)
radio_served false slot winner facts = winner_served slot winner facts

-- with the radio off nothing is done
abbrev pub served : Bool → ℕ → Option Activity → Facts → Outcome
served false slot winner facts = goes_on facts Rests
served true slot winner facts = radio_served (is_held_in facts.radio.hold slot) slot winner facts

-- what all links note as they enter their events
abbrev pub notes_entered : ℕ → Facts → List Note
notes_entered slot facts = notes_all_entering facts.view slot 0 facts.links

-- the links enter their events, whether they get the radio or not, and the view follows what they note
abbrev pub facts_entering : ℕ → Facts → Facts
facts_entering slot facts = record facts {
  view = fold view_noted facts.view (notes_entered slot facts);
  links = all_entered slot facts.links;
}

abbrev pub entered : Bool → ℕ → Facts → Outcome
entered on slot facts =
    record (served on slot (winner_of (plan_in slot facts) slot) (facts_entering slot facts)) {
      notes = notes_entered slot facts;
    }

abbrev pub turn_begins : ℕ → Facts → Facts
turn_begins slot facts = record facts { turn = record facts.turn { begun = slot + 1; slot = slot } }

-- a link that has the radio fixes the PDU that it sends next
abbrev pub links_fixing : Doing → Links → Links
links_fixing (CentralSends handle) links = with_change handle (link_after PduFixed) links
links_fixing (PeripheralListens handle) links = with_change handle (link_after PduFixed) links
links_fixing other links = links

abbrev pub fixing : Outcome → Outcome
fixing outcome =
    record outcome { facts = record outcome.facts { links = links_fixing outcome.next outcome.facts.links } }

-- what comes of the beginning of a turn: first the links end that are due, and then the others enter their events
abbrev pub outcome_after_ends : Bool → ℕ → List Note → Facts → Outcome
outcome_after_ends on slot notes facts =
    record (fixing (entered on slot facts)) { notes = notes ++ (entered on slot facts).notes }

abbrev pub outcome_begun : ℕ → Bool → Facts → Outcome
outcome_begun slot on facts =
    outcome_after_ends on slot (notes_ending slot facts) (turn_begins slot (facts_ending slot facts))
