-- The groups of events that are written by one function each (our choice).
use Rattle.std.specs.Prelude.{⊤}
use Rattle.hci_evt.specs.declared.event.Event.{Event}
use Rattle.hci_evt.specs.declared.event.Event.TheVariants.{ConnectionComplete, AdvertisingReport, UpdateComplete, RemoteFeatures, KeyRequest, ParamRequest, LengthChange, EnhancedConnection, PhyComplete, ChannelSelection}

-- an LE meta event with a subevent code from 07 on
abbrev pub IsHigh : Event → Type 0
IsHigh (LengthChange handle tx_octets tx_time rx_octets rx_time) = ⊤
IsHigh (EnhancedConnection status handle role peer_kind peer local other interval latency timeout accuracy) = ⊤
IsHigh (PhyComplete status handle tx rx) = ⊤
IsHigh (ChannelSelection handle algorithm) = ⊤
IsHigh other = ⊥

-- an LE meta event
abbrev pub IsMeta : Event → Type 0
IsMeta (ConnectionComplete status handle role peer_kind peer interval latency timeout accuracy) = ⊤
IsMeta (AdvertisingReport kind address_kind address report rssi) = ⊤
IsMeta (UpdateComplete status handle interval latency timeout) = ⊤
IsMeta (RemoteFeatures status handle features) = ⊤
IsMeta (KeyRequest handle rand ediv) = ⊤
IsMeta (ParamRequest handle min max latency timeout) = ⊤
IsMeta other = IsHigh other
