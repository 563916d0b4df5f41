-- Two controllers as worked examples set them up, and packets to a host.
use Rattle.std.specs.Prelude.{ℕ, true, false, List, [], ◌∷◌, ◌++◌, map}
use Rattle.ble_base.specs.declared.addresses.Address.{Address}
use Rattle.ble_base.specs.declared.notes.Note.{Note}
use Rattle.ble_base.specs.declared.notes.Note.TheVariants.{Up}
use Rattle.controller_model.specs.Step.{Step, HostOctet, TurnBegins, PacketHeard, NothingHeard}
use Rattle.controller_model.specs.Facts.{Setup}

-- the controllers of these public addresses: they hold one link and eight packets each way, and draw one random word
abbrev pub setup_with : List ℕ → ℕ → Setup
setup_with public word = record {
  public = public;
  cursor = 0x71764129;
  words = word ∷ [];
  links = 1;
  host_buffers = 8;
  air_buffers = 8;
}

abbrev pub address_a : List ℕ
address_a = 0x0A ∷ 0x00 ∷ 0x00 ∷ 0xEE ∷ 0xFF ∷ 0xC0 ∷ []

abbrev pub address_b : List ℕ
address_b = 0x0B ∷ 0x00 ∷ 0x00 ∷ 0xEE ∷ 0xFF ∷ 0xC0 ∷ []

abbrev pub setup_a : Setup
setup_a = setup_with address_a 1

abbrev pub setup_b : Setup
setup_b = setup_with address_b 2

abbrev pub public : List ℕ → Address
public octets = record { random = false; octets = octets }

abbrev pub fed : List ℕ → List Step
fed octets = map HostOctet octets

abbrev pub up : List ℕ → Note
up octets = Up (record { items = octets })

-- ---- an advertisement

-- LE Set Advertising Parameters: 20 ms, type 3, the public address, all channels; and LE Set Advertising Enable
abbrev pub advertising_octets : List ℕ
advertising_octets =
    0x01 ∷ 0x06 ∷ 0x20 ∷ 0x0F ∷ 0x20 ∷ 0x00 ∷ 0x20 ∷ 0x00 ∷ 0x03
    ∷ 0x00 ∷ 0x00 ∷ 0x00 ∷ 0x00 ∷ 0x00 ∷ 0x00 ∷ 0x00 ∷ 0x00 ∷ 0x07 ∷ 0x00
    ∷ 0x01 ∷ 0x0A ∷ 0x20 ∷ 0x01 ∷ 0x01 ∷ []

-- Set Event Mask, with the bit of LE events
abbrev pub mask_octets : List ℕ
mask_octets = 0x01 ∷ 0x01 ∷ 0x0C ∷ 0x08 ∷ 0xFF ∷ 0xFF ∷ 0xFF ∷ 0xFF ∷ 0xFF ∷ 0x1F ∷ 0x00 ∷ 0x20 ∷ []

-- and LE Set Scan Enable
abbrev pub scanning_octets : List ℕ
scanning_octets = mask_octets ++ 0x01 ∷ 0x0C ∷ 0x20 ∷ 0x02 ∷ 0x01 ∷ 0x00 ∷ []

-- the advertisement of A on channel 37, with this last octet
abbrev pub advertisement_ending : ℕ → List ℕ
advertisement_ending last =
    0xD6 ∷ 0xBE ∷ 0x89 ∷ 0x8E ∷ 0x8F ∷ 0xD4 ∷ 0x5D ∷ 0xA1 ∷ 0x3D ∷ 0x49 ∷ 0x99 ∷ 0x70 ∷ 0xF8 ∷ 0x4A ∷ last ∷ []

-- A, and B, in their first turn
abbrev pub advertiser_in_turn : List Step
advertiser_in_turn = fed advertising_octets ++ TurnBegins 0 true ∷ []

abbrev pub scanner_in_turn : List Step
scanner_in_turn = fed scanning_octets ++ TurnBegins 0 true ∷ []

abbrev pub scanner_heard_it : List Step
scanner_heard_it = scanner_in_turn ++ PacketHeard (advertisement_ending 0xDA) ∷ []

-- ---- a link

-- LE Create Connection to B: scanning all the time, 30 ms, no latency, a timeout of 720 ms; after Set Event Mask
abbrev pub connecting_octets : List ℕ
connecting_octets =
    mask_octets ++ 0x01 ∷ 0x0D ∷ 0x20 ∷ 0x19 ∷ 0x60 ∷ 0x00 ∷ 0x60 ∷ 0x00 ∷ 0x00 ∷ 0x00
    ∷ 0x0B ∷ 0x00 ∷ 0x00 ∷ 0xEE ∷ 0xFF ∷ 0xC0 ∷ 0x00 ∷ 0x18 ∷ 0x00 ∷ 0x18 ∷ 0x00 ∷ 0x00 ∷ 0x00 ∷ 0x48 ∷ 0x00
    ∷ 0x00 ∷ 0x00 ∷ 0x00 ∷ 0x00 ∷ []

-- LE Set Advertising Enable, after Set Event Mask
abbrev pub enabling_octets : List ℕ
enabling_octets = mask_octets ++ 0x01 ∷ 0x0A ∷ 0x20 ∷ 0x01 ∷ 0x01 ∷ []

-- the ADV_IND of B, and the CONNECT_IND of A to it, on channel 37
abbrev pub advertisement_b : List ℕ
advertisement_b =
    0xD6 ∷ 0xBE ∷ 0x89 ∷ 0x8E ∷ 0xAD ∷ 0xD4 ∷ 0x5C ∷ 0xA1 ∷ 0x3D ∷ 0x49 ∷ 0x99 ∷ 0x70 ∷ 0xED ∷ 0xE4 ∷ 0x27 ∷ []

abbrev pub connection : List ℕ
connection =
    0xD6 ∷ 0xBE ∷ 0x89 ∷ 0x8E ∷ 0xA8 ∷ 0xF0 ∷ 0x5D ∷ 0xA1 ∷ 0x3D ∷ 0x49 ∷ 0x99 ∷ 0x70 ∷ 0x7E ∷ 0x31 ∷ 0x11 ∷ 0xA6
    ∷ 0x69 ∷ 0xB7 ∷ 0xD1 ∷ 0xA2 ∷ 0x30 ∷ 0x98 ∷ 0xAA ∷ 0xD0 ∷ 0x9E ∷ 0x52 ∷ 0x33 ∷ 0xD8 ∷ 0xA2 ∷ 0x98 ∷ 0x08 ∷ 0x24
    ∷ 0x83 ∷ 0x3B ∷ 0x03 ∷ 0x8E ∷ 0x5C ∷ 0x0B ∷ 0x4A ∷ 0x6D ∷ 0xC6 ∷ 0xC3 ∷ 0x87 ∷ []

-- the first packet of A on the link, an empty PDU, on channel 25
abbrev pub first_packet : List ℕ
first_packet = 0x29 ∷ 0x41 ∷ 0x76 ∷ 0x71 ∷ 0x50 ∷ 0xFA ∷ 0x1E ∷ 0xE5 ∷ 0x50 ∷ []

-- the turn in slot 0: A listens, hears the advertisement, and sends the CONNECT_IND
abbrev pub central_listens : List Step
central_listens = fed connecting_octets ++ TurnBegins 0 true ∷ []

abbrev pub central_answers : List Step
central_answers = central_listens ++ PacketHeard advertisement_b ∷ []

abbrev pub central_linked : List Step
central_linked = central_answers ++ NothingHeard ∷ []

-- B sends the advertisement, listens, and hears the CONNECT_IND
abbrev pub peripheral_sends : List Step
peripheral_sends = fed enabling_octets ++ TurnBegins 0 true ∷ []

abbrev pub peripheral_listens : List Step
peripheral_listens = peripheral_sends ++ NothingHeard ∷ []

abbrev pub peripheral_linked : List Step
peripheral_linked = peripheral_listens ++ PacketHeard connection ∷ []

-- ---- data of a host

-- a packet of no octet on the link, and one of one octet
abbrev pub empty_given : List Step
empty_given = fed (0x02 ∷ 0x00 ∷ 0x20 ∷ 0x00 ∷ 0x00 ∷ [])

abbrev pub octet_given : List Step
octet_given = fed (0x02 ∷ 0x00 ∷ 0x20 ∷ 0x01 ∷ 0x00 ∷ 0xAA ∷ [])
