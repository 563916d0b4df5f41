-- What a controller holds: plain facts of its host, of the turn and the radio, of advertising, scanning and initiating,
-- and of its links (our choice).
use Rattle.std.specs.Prelude.{ℕ, Bool, true, false, List, [], Option, None, replicate}
use Rattle.ble_base.specs.declared.Config.{Config}
use Rattle.acl_banks.specs.declared.pieces.Piece.{Piece}
use Rattle.host_view.specs.View.{View, first_view}
use Rattle.advertise.specs.declared.params.AdvParams.{AdvParams}
use Rattle.advertise.specs.Advertising.{AdvertiserFacts}
use Rattle.advertise.specs.Defaults.{first_params}
use Rattle.host_view.specs.scan_init.Initiating.{InitiatorFacts}
use Rattle.host_view.specs.scan_init.Reports.{ScannerFacts}
use Rattle.slot_plan.specs.declared.Activity.{Activity}
use Rattle.slot_plan.specs.declared.Activity.TheVariants.{Scan}
use Rattle.slot_plan.specs.declared.plan.Hold.{Hold}
use Rattle.link_commands.specs.open_links.OpenLinks.{Links}
use Rattle.controller_model.specs.declared.doing.Doing.TheVariants.{Rests}
use Rattle.controller_model.specs.declared.doing.Turn.{Turn}

-- what a controller is set up with
pub record Setup : Type 0 where
  -- its public address, least significant octet first
  pub public : List ℕ
  -- the access address at which the search for those of new links begins
  pub cursor : ℕ
  -- the random words that it draws, round and round
  pub words : List ℕ
  -- how many links it can hold, how many ACL packets of its host, and how many pieces of data from the air
  pub links : ℕ
  pub host_buffers : ℕ
  pub air_buffers : ℕ

-- what a controller with these settings and of this size is set up with
abbrev pub setup_of : Config → ℕ → ℕ → ℕ → Setup
setup_of config links host_buffers air_buffers = record {
  public = config.public;
  cursor = config.cursor;
  words = config.words.items;
  links = links;
  host_buffers = host_buffers;
  air_buffers = air_buffers;
}

-- what a controller wants of the radio in a phase
pub data Use : Type 0 where
  Sends : (channel : ℕ) (octets : List ℕ) → Use
  Listens : (channel : ℕ) → Use
  Idle : Use

-- the slots for which the radio is held, and what holds it, if anything does
pub record Radio : Type 0 where
  pub hold : Option Hold
  pub holder : Activity

-- advertising: what the host set (Core 5.2, volume 4 part E, sections 7.8.5 to 7.8.8), and the advertiser while it is on
pub record Advertising : Type 0 where
  -- the own address among these is found as advertising is turned on
  pub params : AdvParams
  -- the advertising data and the scan response data
  pub data_octets : List ℕ
  pub response_octets : List ℕ
  pub on : Option AdvertiserFacts

-- scanning: what the host set (sections 7.8.10 and 7.8.11), and the scanner while it is on
pub record Scanning : Type 0 where
  pub active : Bool
  -- the interval and the window in units of 0.625 ms
  pub interval : ℕ
  pub window : ℕ
  pub on : Option ScannerFacts

pub record Facts : Type 0 where
  -- the octets of the host
  pub octets : List ℕ
  -- what the statuses of commands and the masks of events depend on
  pub view : View
  -- how many random words were drawn, and how many access addresses were taken for new links
  pub drawn : ℕ
  pub connections : ℕ
  pub turn : Turn
  -- what it wants of the radio in the phase that comes next
  pub wanted : Use
  pub radio : Radio
  pub advertising : Advertising
  pub scanning : Scanning
  pub initiator : Option InitiatorFacts
  pub links : Links
  -- the pieces of data that links took and the host has not received, in order, each with its handle
  pub received : List (ℕ × Piece)

-- as a controller starts, and after a Reset (sections 7.8.5 and 7.8.10)
abbrev pub free_radio : Radio
free_radio = record { hold = None; holder = Scan }

abbrev pub first_advertising : Advertising
first_advertising = record { params = first_params; data_octets = []; response_octets = []; on = None }

abbrev pub first_scanning : Scanning
first_scanning = record { active = false; interval = 0x0010; window = 0x0010; on = None }

abbrev pub first_turn : Turn
first_turn = record { begun = 0; slot = 0; doing = Rests }

abbrev pub first_facts : Setup → Facts
first_facts setup = record {
  octets = [];
  view = first_view setup.links true;
  drawn = 0;
  connections = 0;
  turn = first_turn;
  wanted = Idle;
  radio = free_radio;
  advertising = first_advertising;
  scanning = first_scanning;
  initiator = None;
  links = replicate setup.links None;
  received = [];
}
