-- What a side wants of the radio in each turn, what has it, and what the side does first in it, from the lines of a
-- journal alone (Core 5.2, volume 6 part B, sections 4.4.2 to 4.5.1; who has the radio, and for how many slots, is our
-- choice).
use Rattle.std.specs.Prelude.{ℕ, ◌==◌, Bool, true, false, List, [], ◌∷◌, ◌++◌, fold, Option, Some, None, is_some, if◌then◌else◌}
use Rattle.std.specs.List.{find}
use Rattle.std.specs.Option.{option_map}
use Rattle.ble_base.specs.declared.roles.Role.{Role}
use Rattle.ble_base.specs.declared.roles.Role.TheVariants.{Central, Peripheral}
use Rattle.ble_base.specs.declared.roles.Side.{Side}
use Rattle.ble_base.specs.declared.roles.Side.TheVariants.{A, B}
use Rattle.hci_cmd.specs.declared.command.Command.{Command}
use Rattle.host_answers.specs.Answered.{accepted_in}
use Rattle.host_view.specs.Changes.{view_after}
use Rattle.host_view.specs.View.{View, first_view}
use Rattle.journal.specs.declared.entries.Entry.{Entry}
use Rattle.journal.specs.declared.entries.Entry.TheVariants.{Air, Enter, Opened, Shut, Turn, Up}
use Rattle.slot_plan.specs.declared.Activity.{Activity}
use Rattle.slot_plan.specs.declared.Activity.TheVariants.{Advertise, Initiate, Link, Scan}
use Rattle.slot_plan.specs.declared.Want.{Want}
use Rattle.slot_plan.specs.Holding.{is_held_in, winner_of}
use Rattle.host_view.specs.scan_init.Initiating.{InitiatorFacts}
use Rattle.journal_events.specs.journal_sending.controller_model.declared.doing.Doing.{Doing}
use Rattle.journal_events.specs.journal_sending.controller_model.declared.doing.Doing.TheVariants.{Rests}
use Rattle.journal_events.specs.journal_sending.controller_model.Commands.{advertising_after, initiator_after, radio_after, scanning_after}
use Rattle.journal_events.specs.journal_sending.controller_model.Facts.{Advertising, Radio, Scanning, Setup, first_advertising, first_scanning, free_radio}
use Rattle.journal_events.specs.journal_sending.controller_model.Links.{radio_without}
use Rattle.journal_events.specs.journal_sending.controller_model.Radio.{advertiser_wants, advertises_at, exchange_begins, exchange_if, initiates_on, initiator_channel, radio_held, scanner_channel, scans_on, served_if_on, slots_since, want_if}
use Rattle.journal_events.specs.journal_sending.journal_controls.LineSteps.{turn_now}
use Rattle.journal_events.specs.journal_sending.journal_controls.journal_ends.Asked.{Words}
use Rattle.journal_events.specs.journal_sending.journal_data.Held.{links_open}
use Rattle.journal_events.specs.journal_sending.journal_data.HostLines.{OpenUnder, link_under}
use Rattle.journal_events.specs.journal_sending.journal_links.Begun.{LinkBegun, link_numbered}
use Rattle.journal_events.specs.journal_sending.journal_links.Changes.{role_on}
use Rattle.journal_events.specs.journal_sending.journal_packets.Belonging.{is_side}
use Rattle.journal_events.specs.EventLines.{EventLines, event_on, goes_on, slots_held}
use Rattle.journal_events.specs.Skips.{is_skipped}

-- what each side is set up with: its public address, and where it looks for access addresses
abbrev pub Setups : Type 0
Setups = Side → Setup

-- what the lines of a side say of its radio
pub record Station : Type 0 where
  -- what its host has set, by the commands that are accepted
  pub view : View
  -- the advertiser, the scanner and the initiator while they are on
  pub advertising : Advertising
  pub scanning : Scanning
  pub initiator : Option InitiatorFacts
  -- the slots for which the radio is held
  pub radio : Radio
  -- the slot in which each link had the radio last, by its number
  pub served : ℕ → Option ℕ
  -- in the turn under way: its radio is on, the links that want it, and what the side does first, once that is decided
  pub on : Bool
  pub wants : List Want
  pub doing : Option Doing

abbrev pub first_station : Station
first_station = record {
  view = first_view 0 true;
  advertising = first_advertising;
  scanning = first_scanning;
  initiator = None;
  radio = free_radio;
  served = λ number. None;
  on = false;
  wants = [];
  doing = Some Rests;
}

-- ---- its host: an advertiser is due, and a scanner or an initiator begins, in the turn in which it is turned on

abbrev pub commanded : Setup → ℕ → Station → Command → Station
commanded setup slot station command = record station {
  view = view_after station.view command;
  advertising = advertising_after setup station.view slot command station.advertising;
  scanning = scanning_after setup station.view slot command station.scanning;
  initiator = initiator_after setup station.view slot command station.initiator;
  radio = radio_after command station.radio;
}

-- ---- its links

abbrev pub handle_of : ℕ → List OpenUnder → Option ℕ
handle_of number links =
    option_map (λ (one : OpenUnder). one.handle) (find (λ (one : OpenUnder). one.link == number) links)

-- a new link had the radio last in the turn of its CONNECT_IND
abbrev pub served_last : Option ℕ → Option LinkBegun → ℕ
served_last (Some slot) link = slot
served_last None None = 0
served_last None (Some link) = link.slot

abbrev pub want_of : Option ℕ → ℕ → List Want
want_of None slot = []
want_of (Some handle) slot = record { activity = Link handle; last_served = record { 0 = slot } } ∷ []

abbrev pub wants_unless : Bool → List Want → List Want
wants_unless true wants = []
wants_unless false wants = wants

-- a link wants the radio in the turn of an event that it enters, unless it skips it; `front` ends with the line of that
abbrev pub link_wants : Words → Side → ℕ → List Entry → (ℕ → Option ℕ) → List Want
link_wants words side number front served =
    wants_unless (is_skipped words side number front)
    (want_of (handle_of number (links_open side front)) (served_last (served number) (link_numbered number front)))

abbrev pub shut_under : Option ℕ → Radio → Radio
shut_under None radio = radio
shut_under (Some handle) radio = radio_without handle radio

-- a central stops initiating as it opens its link, and a peripheral stops advertising, so that the radio is free again
abbrev pub opened_as : Role → Station → Station
opened_as Central station = record station { initiator = None }
opened_as Peripheral station = record station {
  advertising = record station.advertising { on = None };
  radio = free_radio;
}

-- ---- who has the radio in a slot

abbrev pub all_wants : ℕ → Station → List Want
all_wants slot station =
    station.wants
    ++ want_if (advertiser_wants slot station.advertising.on) Advertise
    ++ want_if (is_some (scanner_channel slot station.scanning.on)) Scan
    ++ want_if (is_some (initiator_channel slot station.initiator)) Initiate

abbrev pub winner_in : ℕ → Station → Option Activity
winner_in slot station = winner_of (record { wants = all_wants slot station; hold = station.radio.hold }) slot

-- the link under a handle, as a slot begins
pub record Linked : Type 0 where
  pub number : Option ℕ
  pub role : Role
  pub event : EventLines

abbrev pub role_by : Option LinkBegun → Side → Role
role_by None side = Central
role_by (Some link) side = role_on link side

abbrev pub linked_with : Words → Side → List Entry → Option ℕ → Linked
linked_with words side front None =
    record { number = None; role = Central; event = event_on words side 0 front }
linked_with words side front (Some number) = record {
  number = Some number;
  role = role_by (link_numbered number front) side;
  event = event_on words side number front;
}

abbrev pub linked_under : Words → Side → List Entry → ℕ → Linked
linked_under words side front handle = linked_with words side front (link_under handle (links_open side front))

abbrev pub served_with : Option ℕ → ℕ → (ℕ → Option ℕ) → ℕ → Option ℕ
served_with None slot served other = served other
served_with (Some number) slot served other = if other == number then Some slot else served other

-- what wins a slot holds the radio: the event of a link for its slots, that of an advertiser for three
abbrev pub won : (ℕ → Linked) → ℕ → Activity → Station → Station
won linked slot (Link handle) station = record station {
  served = served_with (linked handle).number slot station.served;
  radio = radio_held (Link handle) slot (slots_held (linked handle).event);
  doing = Some (exchange_begins (linked handle).role handle);
}
won linked slot Advertise station = record station {
  advertising = record station.advertising { on = served_if_on slot station.advertising.on };
  radio = radio_held Advertise slot 3;
  doing = Some (advertises_at 0 station.advertising.on);
}
won linked slot Scan station =
    record station { doing = Some (scans_on (scanner_channel slot station.scanning.on)) }
won linked slot Initiate station =
    record station { doing = Some (initiates_on (initiator_channel slot station.initiator)) }

abbrev pub won_by : (ℕ → Linked) → ℕ → Option Activity → Station → Station
won_by linked slot None station = record station { doing = Some Rests }
won_by linked slot (Some activity) station = won linked slot activity station

-- what holds the radio goes on
abbrev pub doing_held : (ℕ → Linked) → ℕ → Activity → Station → Doing
doing_held linked slot (Link handle) station =
    exchange_if (goes_on (linked handle).event) (linked handle).role handle
doing_held linked slot Advertise station =
    advertises_at (slots_since slot station.radio.hold) station.advertising.on
doing_held linked slot Scan station = Rests
doing_held linked slot Initiate station = Rests

abbrev pub served_in : (on held : Bool) → (ℕ → Linked) → ℕ → Station → Station
served_in false held linked slot station = record station { doing = Some Rests }
served_in true true linked slot station =
    record station { doing = Some (doing_held linked slot station.radio.holder station) }
served_in true false linked slot station = won_by linked slot (winner_in slot station) station

-- once, after the side has begun the turn that is under way after these entries: as its first packet is on the air, or as
-- the next turn begins
abbrev pub decided_if : Option Doing → Words → Side → List Entry → Station → Station
decided_if (Some doing) words side front station = station
decided_if None words side front station =
    served_in station.on (is_held_in station.radio.hold (turn_now front)) (linked_under words side front) (turn_now front)
    station

abbrev pub decided : Words → Side → List Entry → Station → Station
decided words side front station = decided_if station.doing words side front station

abbrev pub doing_or : Option Doing → Doing
doing_or None = Rests
doing_or (Some doing) = doing

-- ---- line by line

abbrev pub is_on : Side → Bool → Option Bool → Bool
is_on A a_on b_on = a_on
is_on B a_on None = false
is_on B a_on (Some b_on) = b_on

abbrev pub turn_begun : Bool → Station → Station
turn_begun on station = record station { on = on; wants = []; doing = None }

abbrev pub commanded_by : Setup → ℕ → List Command → Station → Station
commanded_by setup slot commands station = fold (commanded setup slot) station commands

-- a line of this side on the link with this number
abbrev pub own_line : Words → Side → ℕ → List Entry → Entry → Station → Station
own_line words side number front (Enter other link event channel) station =
    record station {
      wants = station.wants ++ link_wants words side number (front ++ Enter other link event channel ∷ []) station.served;
    }
own_line words side number front (Shut other link reason) station =
    record station { radio = shut_under (handle_of number (links_open side front)) station.radio }
own_line words side number front (Opened other link handle role) station = opened_as role station
own_line words side number front line station = station

abbrev pub line_if : Bool → (Station → Station) → Station → Station
line_if true change station = change station
line_if false change station = station

abbrev pub station_after : Words → Setups → Side → List Entry → Station → Entry → Station
station_after words setups side front station (Turn slot a_on b_on) =
    turn_begun (is_on side a_on b_on) (decided words side front station)
station_after words setups side front station (Air sender channel octets fate verdict) = decided words side front station
station_after words setups side front station (Up other octets) =
    commanded_by (setups side) (turn_now front) (accepted_in side front (Up other octets)) station
station_after words setups side front station (Enter other link event channel) =
    line_if (is_side other side) (own_line words side link front (Enter other link event channel)) station
station_after words setups side front station (Shut other link reason) =
    line_if (is_side other side) (own_line words side link front (Shut other link reason)) station
station_after words setups side front station (Opened other link handle role) =
    line_if (is_side other side) (own_line words side link front (Opened other link handle role)) station
station_after words setups side front station line = station

abbrev pub station_from : Words → Setups → Side → List Entry → Station → List Entry → Station
station_from words setups side front station [] = station
station_from words setups side front station (line ∷ lines) =
    station_from words setups side (front ++ line ∷ []) (station_after words setups side front station line) lines

-- a side by its lines; what it does first in the turn under way may not be decided yet
unfoldable pub station_on : Words → Setups → Side → List Entry → Station
station_on words setups side journal = station_from words setups side [] first_station journal

-- it is decided after these lines, if it was not before
abbrev pub station_deciding : Words → Setups → Side → List Entry → Station
station_deciding words setups side front = decided words side front (station_on words setups side front)

abbrev pub doing_first : Words → Setups → Side → List Entry → Doing
doing_first words setups side front = doing_or (station_deciding words setups side front).doing
