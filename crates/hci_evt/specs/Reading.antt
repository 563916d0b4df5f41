-- Which event octets are (Core 5.2, volume 4 part A, section 2, and part E, sections 5.4.4 and 7.7).
use Rattle.std.specs.Prelude.{◌≡◌, ℕ, ◌≤◌, ◌==◌, ◌&&◌, List, [], ◌∷◌, length, nat_le, Option, Some, None, if◌then◌else◌}
use Rattle.wire_fields.specs.Field.{Field, number}
use Rattle.wire_fields.specs.Layout.{Layout, done, take_number, take_octets, take_rest, mapped, read_some_by}
use Rattle.wire_fields.specs.Kind.{Maker, kinds_of, fields}
use Rattle.wire_fields.specs.Table.{value_in}
use Rattle.hci_evt.specs.declared.event.Event.{Event}
use Rattle.hci_evt.specs.declared.event.Event.TheVariants.{DisconnectionComplete, EncryptionChange, RemoteVersion, CommandComplete, CommandStatus, HardwareError, CompletedPackets, BufferOverflow, KeyRefresh, ConnectionComplete, AdvertisingReport, UpdateComplete, RemoteFeatures, KeyRequest, ParamRequest, LengthChange, EnhancedConnection, PhyComplete, ChannelSelection}
use Rattle.hci_evt.specs.Event.{code_of, parameters_of}

-- the layout with fields of the kinds of these, whatever their values
abbrev with_fields : (parameters : List Field) → Maker (kinds_of parameters) Event → Layout (Option Event)
with_fields parameters make = mapped Some (fields (kinds_of parameters) make)

-- the events of one variant: the code and the kinds of the fields are those of this one, whatever its values
abbrev events : (sample : Event) → Maker (kinds_of (parameters_of sample)) Event → ℕ × Layout (Option Event)
events sample make = (code_of sample, with_fields (parameters_of sample) make)

-- the parameters of an LE meta event after its subevent code, and that code
abbrev after_subevent : List Field → List Field
after_subevent [] = []
after_subevent (first ∷ rest) = rest

abbrev subevent_in : List Field → ℕ
subevent_in (number n subevent ∷ rest) = subevent
subevent_in other = 0

-- the LE meta events of one variant
abbrev le_events : (sample : Event) → Maker (kinds_of (after_subevent (parameters_of sample))) Event
    → ℕ × Layout (Option Event)
le_events sample make = (subevent_in (parameters_of sample), with_fields (after_subevent (parameters_of sample)) make)

-- Command Complete: what is after the opcode is return parameters (section 7.7.14)
abbrev pub command_complete : Layout (Option Event)
command_complete =
    take_number 1 (λ packets. take_number 2 (λ opcode. take_rest (λ rest.
    Some (CommandComplete packets opcode (record { items = rest })))))

-- Number Of Completed Packets, of one handle (section 7.7.19)
abbrev pub completed_packets : Layout (Option Event)
completed_packets =
    take_number 1 (λ handles. take_number 2 (λ handle. take_number 2 (λ count. done (
    if handles == 1 then Some (CompletedPackets handle count) else None))))

-- LE Advertising Report, of one report with at most 31 octets of data (section 7.7.65.2)
abbrev pub advertising_report : Layout (Option Event)
advertising_report =
    take_number 1 (λ reports. take_number 1 (λ kind. take_number 1 (λ address_kind. take_octets 6 (λ address.
    take_number 1 (λ count. take_octets count (λ report. take_number 1 (λ rssi. done (
    if (reports == 1) && nat_le count 31
    then Some (AdvertisingReport kind address_kind address (record { items = report }) rssi)
    else None))))))))

-- the layouts by the event code, but those of LE meta events
unfoldable pub layouts : List (ℕ × Layout (Option Event))
layouts =
    events (DisconnectionComplete 0 0 0) DisconnectionComplete ∷
    events (EncryptionChange 0 0 0) EncryptionChange ∷
    events (RemoteVersion 0 0 0 0 0) RemoteVersion ∷
    events (CommandStatus 0 0 0) CommandStatus ∷
    events (HardwareError 0) HardwareError ∷
    events (BufferOverflow 0) BufferOverflow ∷
    events (KeyRefresh 0 0) KeyRefresh ∷
    (0x0E, command_complete) ∷
    (0x13, completed_packets) ∷ []

-- the layouts of what is after the subevent code, by that code
unfoldable pub le_layouts : List (ℕ × Layout (Option Event))
le_layouts =
    le_events (ConnectionComplete 0 0 0 0 [] 0 0 0 0) ConnectionComplete ∷
    le_events (UpdateComplete 0 0 0 0 0) UpdateComplete ∷
    le_events (RemoteFeatures 0 0 0) RemoteFeatures ∷
    le_events (KeyRequest 0 0 0) KeyRequest ∷
    le_events (ParamRequest 0 0 0 0 0) ParamRequest ∷
    le_events (LengthChange 0 0 0 0 0) LengthChange ∷
    le_events (EnhancedConnection 0 0 0 0 [] [] [] 0 0 0 0) EnhancedConnection ∷
    le_events (PhyComplete 0 0 0 0) PhyComplete ∷
    le_events (ChannelSelection 0 0) ChannelSelection ∷
    (0x02, advertising_report) ∷ []

-- the event with these parameters by the layout, where there is one
abbrev pub read_with : Option (Layout (Option Event)) → List ℕ → Option Event
read_with None parameters = None
read_with (Some layout) parameters = read_some_by layout parameters

-- the LE meta event with this subevent code, of what is after the code
unfoldable pub le_event_in : ℕ → List ℕ → Option Event
le_event_in subevent parameters = read_with (value_in le_layouts subevent) parameters

abbrev pub le_event_of : List ℕ → Option Event
le_event_of [] = None
le_event_of (subevent ∷ rest) = le_event_in subevent rest

-- the event with this code and these parameters
unfoldable pub event_in : ℕ → List ℕ → Option Event
event_in code parameters = if code == 0x3E then le_event_of parameters else read_with (value_in layouts code) parameters

-- the event whose packet the octets are: indicator 4, the code, the length of the parameters, and these
unfoldable pub event_of : List ℕ → Option Event
event_of (indicator ∷ code ∷ count ∷ parameters) =
    if (indicator == 4) && (length parameters == count) then event_in code parameters else None
event_of other = None

-- the octets are a packet with this code and these parameters
pub record IsPacket (octets : List ℕ) (code : ℕ) (parameters : List ℕ) : Type 0 where
  pub whole : octets ≡ 4 ∷ code ∷ length parameters ∷ parameters
  pub short : length parameters ≤ 255
