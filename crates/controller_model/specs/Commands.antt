-- What an accepted command changes of advertising, scanning, initiating, links and random words (Core 5.2, volume 4
-- part E, sections 7.3.2 and 7.8).
use Rattle.std.specs.Prelude.{ℕ, ◌+◌, ◌%◌, ◌^◌, ◌==◌, ◌&&◌, Bool, true, false, List, [], ◌∷◌, ◌++◌, take, Option, Some, None, if◌then◌else◌}
use Rattle.ble_base.specs.declared.addresses.Address.{Address}
use Rattle.ble_base.specs.declared.notes.Note.{Note}
use Rattle.acl_banks.specs.declared.pieces.Piece.{Piece}
use Rattle.hci_cmd.specs.declared.command.Command.{Command}
use Rattle.hci_cmd.specs.declared.command.Command.TheVariants.{Reset, LeSetAdvParams, LeSetAdvData, LeSetScanResponse, LeSetAdvEnable, LeSetScanParams, LeSetScanEnable, LeCreateConnection, LeCreateCancel, LeRand, LeEnableEncryption}
use Rattle.hci_cmd.specs.declared.command.CmdRead.{CmdRead}
use Rattle.hci_cmd.specs.declared.command.CmdRead.TheVariants.{Known}
use Rattle.hci_evt.specs.declared.event.Event.{Event}
use Rattle.adv_pdu.specs.declared.pdu.ConnectFields.{ConnectFields}
use Rattle.host_view.specs.Changes.{view_after}
use Rattle.host_view.specs.View.{View}
use Rattle.host_view.specs.OnLinks.{asks_links}
use Rattle.host_view.specs.Status.{named_address}
use Rattle.host_view.specs.Status.{status_of}
use Rattle.advertise.specs.declared.params.AdvParams.{AdvParams}
use Rattle.advertise.specs.Advertising.{AdvertiserFacts}
use Rattle.advertise.specs.Defaults.{no_address}
use Rattle.host_view.specs.scan_init.Initiating.{InitiatorFacts}
use Rattle.host_view.specs.scan_init.Reports.{ScannerFacts}
use Rattle.slot_plan.specs.declared.Activity.{Activity}
use Rattle.slot_plan.specs.declared.Activity.TheVariants.{Link, Advertise, Scan, Initiate}
use Rattle.link_commands.specs.open_links.OpenLinks.{Links, without_links}
use Rattle.link_commands.specs.declared.moments.Moment.{Moment}
use Rattle.link_commands.specs.LinksCommanded.{events_commanded_on, links_commanded, view_commanded_on}
use Rattle.controller_model.specs.Answers.{answer_to, next_word}
use Rattle.controller_model.specs.Events.{notes_of_events}
use Rattle.controller_model.specs.Facts.{Setup, Facts, Radio, Advertising, Scanning, free_radio, first_advertising, first_scanning}
use Rattle.controller_model.specs.Links.{connection_failed, notes_reset, wants_enhanced}

-- ---- addresses

-- the own address: the random one for type 1, else the public one (section 7.8.5)
abbrev pub random_or_public : List ℕ → Option (List ℕ) → Address
random_or_public public None = record { random = false; octets = public }
random_or_public public (Some random) = record { random = true; octets = random }

abbrev pub own_address : Setup → View → ℕ → Address
own_address setup view own = random_or_public setup.public (if own == 1 then view.random else None)

-- ---- advertising (sections 7.8.5 to 7.8.9)

-- an advertiser that is turned on where it was off is a new one: its first event is due in the next slot (our choice)
abbrev pub advertiser_turned_on : Address → ℕ → AdvParams → AdvertiserFacts
advertiser_turned_on own slot params = record { params = record params { own = own }; due = slot }

abbrev pub advertiser_enabled : Address → ℕ → AdvParams → ℕ → Option AdvertiserFacts → Option AdvertiserFacts
advertiser_enabled own slot params value None =
    if value == 1 then Some (advertiser_turned_on own slot params) else None
advertiser_enabled own slot params value (Some on) = if value == 1 then Some on else None

-- the next slot is the argument `slot` here and below
abbrev pub advertising_after : Setup → View → ℕ → Command → Advertising → Advertising
advertising_after setup view slot Reset advertising = first_advertising
advertising_after setup view slot (LeSetAdvParams min max kind own peer_kind peer channels policy) advertising =
    record advertising {
      params = record {
        interval = min;
        kind = kind;
        own = no_address;
        target = named_address peer_kind peer;
        channels = channels;
        policy = policy;
      };
    }
advertising_after setup view slot (LeSetAdvData count text) advertising =
    record advertising { data_octets = take count text }
advertising_after setup view slot (LeSetScanResponse count text) advertising =
    record advertising { response_octets = take count text }
advertising_after setup view slot (LeSetAdvEnable value) advertising = record advertising {
  on =
      advertiser_enabled (own_address setup view view.advertising.own) slot advertising.params value advertising.on;
}
advertising_after setup view slot other advertising = advertising

-- the radio is free again where an advertiser that held it is turned off (our choice)
abbrev pub radio_unadvertised : Activity → Radio → Radio
radio_unadvertised (Link handle) radio = radio
radio_unadvertised Advertise radio = free_radio
radio_unadvertised Scan radio = radio
radio_unadvertised Initiate radio = radio

abbrev pub radio_after : Command → Radio → Radio
radio_after Reset radio = free_radio
radio_after (LeSetAdvEnable value) radio = if value == 1 then radio else radio_unadvertised radio.holder radio
radio_after other radio = radio

-- ---- scanning (sections 7.8.10 and 7.8.11)

-- a scanner that is turned on begins in the next slot, and has reported nothing; policy 1 filters by the accept list
abbrev pub scanner_turned_on : Address → (listed once : Bool) → ℕ → Scanning → ScannerFacts
scanner_turned_on own listed once slot scanning = record {
  params = record {
    active = scanning.active;
    interval = scanning.interval;
    window = scanning.window;
    own = own;
    listed = listed;
    once = once;
  };
  since = slot;
  recent = [];
}

abbrev pub scanner_enabled : ScannerFacts → ℕ → Option ScannerFacts → Option ScannerFacts
scanner_enabled new value None = if value == 1 then Some new else None
scanner_enabled new value (Some on) = if value == 1 then Some on else None

abbrev pub scanning_after : Setup → View → ℕ → Command → Scanning → Scanning
scanning_after setup view slot Reset scanning = first_scanning
scanning_after setup view slot (LeSetScanParams kind interval window own policy) scanning =
    record scanning { active = (kind == 1); interval = interval; window = window }
scanning_after setup view slot (LeSetScanEnable value duplicates) scanning = record scanning {
  on =
      scanner_enabled
      (scanner_turned_on (own_address setup view view.scanning.own) (view.scanning.policy == 1) (duplicates == 1) slot
      scanning)
      value scanning.on;
}
scanning_after setup view slot other scanning = scanning

-- ---- initiating (sections 7.8.12 and 7.8.13)

-- the fields of the CONNECT_IND that the host gives: the longest interval; the transmit window is one slot, without an
-- offset (our choice)
abbrev pub fields_given : ℕ → ℕ → ℕ → ConnectFields
fields_given max latency timeout = record {
  access = 0;
  crc_init = 0;
  win_size = 1;
  win_offset = 0;
  interval = max;
  latency = latency;
  timeout = timeout;
  map = 0;
  hop = 0;
  sca = 0;
}

-- with policy 0 it is to connect to the peer that is named, with policy 1 to any in the accept list
abbrev pub peer_named : ℕ → ℕ → List ℕ → Option Address
peer_named policy kind octets = if policy == 0 then Some (named_address kind octets) else None

abbrev pub initiator_after : Setup → View → ℕ → Command → Option InitiatorFacts → Option InitiatorFacts
initiator_after setup view slot Reset initiator = None
initiator_after setup view slot
    (LeCreateConnection interval window policy peer_kind peer own min max latency timeout lengths) initiator =
    Some (record {
      params = record {
        interval = interval;
        window = window;
        own = own_address setup view own;
        peer = peer_named policy peer_kind peer;
        link = fields_given max latency timeout;
      };
      since = slot;
    })
initiator_after setup view slot LeCreateCancel initiator = None
initiator_after setup view slot other initiator = initiator

-- ---- all commands, but for what they ask of links

abbrev pub links_after : Command → Links → Links
links_after Reset links = without_links links
links_after other links = links

-- and what was taken on them is not received any more
abbrev pub received_after : Command → List (ℕ × Piece) → List (ℕ × Piece)
received_after Reset received = []
received_after other received = received

-- LE Enable Encryption draws two random words (volume 6 part B, section 5.1.3.1; when it draws them is our choice)
abbrev pub drawn_after : Command → ℕ → ℕ
drawn_after LeRand drawn = drawn + 1
drawn_after (LeEnableEncryption handle rand ediv key) drawn = drawn + 2
drawn_after other drawn = drawn

abbrev pub facts_accepted : Setup → Facts → Command → Facts
facts_accepted setup facts command = record facts {
  view = view_after facts.view command;
  drawn = drawn_after command facts.drawn;
  radio = radio_after command facts.radio;
  advertising = advertising_after setup facts.view facts.turn.begun command facts.advertising;
  scanning = scanning_after setup facts.view facts.turn.begun command facts.scanning;
  initiator = initiator_after setup facts.view facts.turn.begun command facts.initiator;
  links = links_after command facts.links;
  received = received_after command facts.received;
}

-- a refused command changes nothing, and neither does what is no command
abbrev pub facts_known : Bool → Setup → Facts → Command → Facts
facts_known false setup facts command = facts
facts_known true setup facts command = facts_accepted setup facts command

-- ---- what a command asks of links

-- it is accepted, and asks something of the ends of links
abbrev pub is_asking : View → Command → Bool
is_asking view command = (status_of view command == 0) && asks_links view command

-- a command is accepted in the next slot. The first of two random words is the half of the session key diversifier, and
-- the low half of the second that of the initialization vector (our choice)
abbrev pub moment_by : Setup → (begun drawn : ℕ) → Moment
moment_by setup begun drawn =
    record {
      slot = begun;
      skd_m = next_word setup drawn % 2 ^ 64;
      iv_m = next_word setup (drawn + 1) % 2 ^ 32;
    }

abbrev pub moment_of : Setup → Facts → Moment
moment_of setup facts = moment_by setup facts.turn.begun facts.drawn

-- with the steps that it makes on the links, and what is answered at once; `before` is what was held before it
abbrev pub facts_asking : Bool → Setup → Facts → Command → Facts → Facts
facts_asking false setup before command facts = facts
facts_asking true setup before command facts = record facts {
  view = view_commanded_on before.view command before.links;
  links = links_commanded command (moment_of setup before) before.links;
}

abbrev pub facts_commanded : Setup → Facts → CmdRead → Facts
facts_commanded setup facts (Known command) =
    facts_asking (is_asking facts.view command) setup facts command
    (facts_known (status_of facts.view command == 0) setup facts command)
facts_commanded setup facts other = facts

-- ---- what is noted

-- the links that an accepted Reset shuts, before its answer
abbrev pub notes_before : Facts → Command → List Note
notes_before facts Reset = notes_reset facts
notes_before facts other = []

-- LE Create Connection Cancel is followed by the event of a connection that was not made, with status 02: Unknown
-- Connection Identifier (section 7.8.13)
abbrev pub events_caused : Facts → Command → List Event
events_caused facts LeCreateCancel = connection_failed (wants_enhanced facts.view) 0x02 ∷ []
events_caused facts other = []

-- a refused command is answered; before the answer to one that is accepted come the links that it shuts, and after it
-- the events that it causes
abbrev pub notes_known : Bool → Setup → Facts → ℕ → Command → List Note
notes_known false setup facts opcode command =
    notes_of_events facts.view (answer_to setup facts opcode (Known command))
notes_known true setup facts opcode command =
    notes_before facts command
    ++ notes_of_events facts.view (answer_to setup facts opcode (Known command))
    ++ notes_of_events facts.view (events_caused facts command)

-- and then the events that answer at once what the ends of links know already (sections 7.1.23 and 7.8.21)
abbrev pub notes_asking : Bool → Facts → Command → List Note → List Note
notes_asking false facts command notes = notes
notes_asking true facts command notes =
    notes ++ notes_of_events facts.view (events_commanded_on command facts.links)

abbrev pub notes_commanded : Setup → Facts → ℕ → CmdRead → List Note
notes_commanded setup facts opcode (Known command) =
    notes_asking (is_asking facts.view command) facts command
    (notes_known (status_of facts.view command == 0) setup facts opcode command)
notes_commanded setup facts opcode other = notes_of_events facts.view (answer_to setup facts opcode other)
