-- The events of the controller: their codes, the layout of their parameters, and their bits of the masks (Core 5.2,
-- volume 4 part E, sections 7.3.1, 7.7 and 7.8.1).
use Rattle.std.specs.Prelude.{◌≡◌, ℕ, ◌≤◌, List, [], ◌∷◌, length, ⊤}
use Rattle.wire_fields.specs.Field.{Field, number, octets, spelled, AllFit}
use Rattle.hci_evt.specs.declared.event.Event.{Event}
use Rattle.hci_evt.specs.declared.event.Event.TheVariants.{DisconnectionComplete, EncryptionChange, RemoteVersion, CommandComplete, CommandStatus, HardwareError, CompletedPackets, BufferOverflow, KeyRefresh, ConnectionComplete, AdvertisingReport, UpdateComplete, RemoteFeatures, KeyRequest, ParamRequest, LengthChange, EnhancedConnection, PhyComplete, ChannelSelection}
use Rattle.hci_evt.specs.declared.event.MaskBit.{MaskBit}
use Rattle.hci_evt.specs.declared.event.MaskBit.TheVariants.{Always, Main, Meta}

-- what is written of an event, and what masks it: its code, the bit of a mask, and its parameters in order
pub record Row : Type 0 where
  pub code : ℕ
  pub mask_bit : MaskBit
  pub parameters : List Field

abbrev row : ℕ → MaskBit → List Field → Row
row code mask_bit parameters = record { code = code; mask_bit = mask_bit; parameters = parameters }

-- an LE meta event: its parameters begin with its subevent code, and a bit of the LE event mask is for it
abbrev le_row : ℕ → ℕ → List Field → Row
le_row subevent bit parameters = row 0x3E (Meta bit) (number 1 subevent ∷ parameters)

-- each event (Core 5.2, volume 4 part E, sections 7.3.1, 7.7 and 7.8.1)
abbrev pub row_of : Event → Row
row_of (DisconnectionComplete status handle reason) =
    row 0x05 (Main 4) (number 1 status ∷ number 2 handle ∷ number 1 reason ∷ [])
row_of (EncryptionChange status handle enabled) =
    row 0x08 (Main 7) (number 1 status ∷ number 2 handle ∷ number 1 enabled ∷ [])
row_of (RemoteVersion status handle version company sub) =
    row 0x0C (Main 11) (number 1 status ∷ number 2 handle ∷ number 1 version ∷ number 2 company ∷ number 2 sub ∷ [])
row_of (CommandComplete packets opcode fields) =
    row 0x0E Always (number 1 packets ∷ number 2 opcode ∷ octets (length fields.items) fields.items ∷ [])
row_of (CommandStatus status packets opcode) =
    row 0x0F Always (number 1 status ∷ number 1 packets ∷ number 2 opcode ∷ [])
row_of (HardwareError code) = row 0x10 (Main 15) (number 1 code ∷ [])
row_of (CompletedPackets handle count) = row 0x13 Always (number 1 1 ∷ number 2 handle ∷ number 2 count ∷ [])
row_of (BufferOverflow link_kind) = row 0x1A (Main 25) (number 1 link_kind ∷ [])
row_of (KeyRefresh status handle) = row 0x30 (Main 47) (number 1 status ∷ number 2 handle ∷ [])
row_of (ConnectionComplete status handle role peer_kind peer interval latency timeout accuracy) =
    le_row 0x01 0 (number 1 status ∷ number 2 handle ∷ number 1 role ∷ number 1 peer_kind ∷ octets 6 peer ∷
    number 2 interval ∷ number 2 latency ∷ number 2 timeout ∷ number 1 accuracy ∷ [])
row_of (AdvertisingReport kind address_kind address report rssi) =
    le_row 0x02 1 (number 1 1 ∷ number 1 kind ∷ number 1 address_kind ∷ octets 6 address ∷
    number 1 (length report.items) ∷ octets (length report.items) report.items ∷ number 1 rssi ∷ [])
row_of (UpdateComplete status handle interval latency timeout) =
    le_row 0x03 2 (number 1 status ∷ number 2 handle ∷ number 2 interval ∷ number 2 latency ∷ number 2 timeout ∷ [])
row_of (RemoteFeatures status handle features) =
    le_row 0x04 3 (number 1 status ∷ number 2 handle ∷ number 8 features ∷ [])
row_of (KeyRequest handle rand ediv) = le_row 0x05 4 (number 2 handle ∷ number 8 rand ∷ number 2 ediv ∷ [])
row_of (ParamRequest handle min max latency timeout) =
    le_row 0x06 5 (number 2 handle ∷ number 2 min ∷ number 2 max ∷ number 2 latency ∷ number 2 timeout ∷ [])
row_of (LengthChange handle tx_octets tx_time rx_octets rx_time) =
    le_row 0x07 6 (number 2 handle ∷ number 2 tx_octets ∷ number 2 tx_time ∷ number 2 rx_octets ∷ number 2 rx_time ∷ [])
row_of (EnhancedConnection status handle role peer_kind peer local other interval latency timeout accuracy) =
    le_row 0x0A 9 (number 1 status ∷ number 2 handle ∷ number 1 role ∷ number 1 peer_kind ∷ octets 6 peer ∷
    octets 6 local ∷ octets 6 other ∷ number 2 interval ∷ number 2 latency ∷ number 2 timeout ∷
    number 1 accuracy ∷ [])
row_of (PhyComplete status handle tx rx) =
    le_row 0x0C 11 (number 1 status ∷ number 2 handle ∷ number 1 tx ∷ number 1 rx ∷ [])
row_of (ChannelSelection handle algorithm) = le_row 0x14 19 (number 2 handle ∷ number 1 algorithm ∷ [])

-- the event code
abbrev pub code_of : Event → ℕ
code_of event = (row_of event).code

-- the parameters, in order; those of an LE meta event begin with its subevent code
abbrev pub parameters_of : Event → List Field
parameters_of event = (row_of event).parameters

-- the bit that masks the event (Core 5.2, volume 4 part E, sections 7.3.1 and 7.8.1)
abbrev pub mask_bit_of : Event → MaskBit
mask_bit_of event = (row_of event).mask_bit

-- the packet: indicator 4, the code, and the length of the parameters
-- (Core 5.2, volume 4 part A, section 2, and part E, section 5.4.4)
abbrev pub packet_of : Event → List Field
packet_of event =
    number 1 4 ∷ number 1 (code_of event) ∷ number 1 (length (spelled (parameters_of event))) ∷ parameters_of event

abbrev pub written : Event → List ℕ
written event = spelled (packet_of event)

-- there is room in the event for what it holds
abbrev pub IsWithinCapacity : Event → Type 0
IsWithinCapacity (CommandComplete packets opcode fields) = length fields.items ≤ 252
IsWithinCapacity (AdvertisingReport kind address_kind address report rssi) = length report.items ≤ 31
IsWithinCapacity other = ⊤

-- each number fits its octets, and each list its place
abbrev pub IsEvent : Event → Type 0
IsEvent event = AllFit (packet_of event) × IsWithinCapacity event

-- the event has this code and these parameters
pub record Spells (event : Event) (code : ℕ) (parameters : List ℕ) : Type 0 where
  pub code_is : code_of event ≡ code
  pub parameters_are : spelled (parameters_of event) ≡ parameters
  pub fits : AllFit (parameters_of event)
  pub room : IsWithinCapacity event
