-- What the status of a command depends on: the settings that the host has made, and the links
-- (Core 5.2, volume 4 part E, section 7).
use Rattle.std.specs.Prelude.{ℕ, Bool, false, List, [], ◌∷◌, Option, None}
use Rattle.ble_base.specs.declared.addresses.Address.{Address}
use Rattle.ble_base.specs.Limits.{payload_octets}
use Rattle.host_view.specs.declared.links.Link.{Link}
use Rattle.host_view.specs.declared.view.Advertising.{Advertising}
use Rattle.host_view.specs.declared.view.Scanning.{Scanning}
use Rattle.host_view.specs.declared.view.HostFlow.{HostFlow}

pub record View : Type 0 where
  -- how many links the controller can hold
  pub limit : ℕ
  -- the masks of events and of LE events (sections 7.3.1 and 7.8.1)
  pub mask : ℕ
  pub le_mask : ℕ
  -- the random address, once the host set one (section 7.8.4)
  pub random : Option (List ℕ)
  pub advertising : Advertising
  pub scanning : Scanning
  -- the filter policy of the initiator, while there is one (section 7.8.12)
  pub initiating : Option ℕ
  -- the accept list (section 7.8.16)
  pub accepted : List Address
  -- the data channels that the host lets be used, channel k by bit k (section 7.8.19)
  pub map : ℕ
  pub flow : HostFlow
  -- the open link of each handle, from 0 on
  pub links : List (Option Link)
  -- there is an access address for another link
  pub has_address : Bool

-- what advertising, scanning and flow control are set to as a controller starts (sections 7.8.5, 7.8.10 and 7.3.38)
abbrev pub first_advertising : Advertising
first_advertising = record { on = false; kind = 0; own = 0; policy = 0 }

abbrev pub first_scanning : Scanning
first_scanning = record { on = false; own = 0; policy = 0 }

abbrev pub first_flow : HostFlow
first_flow = record { on = false; acl_length = payload_octets; acl_count = 65535 }

-- all 37 data channels
abbrev pub all_channels : ℕ
all_channels = 0x1FFFFFFFFF

-- no link is open
abbrev pub no_links : List (Option Link)
no_links = None ∷ None ∷ None ∷ None ∷ None ∷ None ∷ []

-- a controller as it starts, and after a Reset, by how many links it can hold (sections 7.3.1, 7.3.2, 7.8.1 and 7.8.19)
abbrev pub first_view : ℕ → Bool → View
first_view limit has_address = record {
  limit = limit;
  mask = 0x00001FFFFFFFFFFF;
  le_mask = 0x1F;
  random = None;
  advertising = first_advertising;
  scanning = first_scanning;
  initiating = None;
  accepted = [];
  map = all_channels;
  flow = first_flow;
  links = no_links;
  has_address = has_address;
}
