-- The status of each command: the conditions under which it is refused, in the order in which they are looked at (Core
-- 5.2, volume 4 part E, section 7; which code each has, and their order, are our choice where the standard leaves them
-- open).
use Rattle.std.specs.Prelude.{ℕ, ◌^◌, ◌==◌, ◌||◌, ◌&&◌, not, nat_lt, nat_le, Bool, true, false, List, [], ◌∷◌, length, Option, is_some, is_none, if◌then◌else◌}
use Rattle.std.specs.List.{list_any, list_all, filter}
use Rattle.std.specs.Str.{bytes_eq}
use Rattle.std.specs.Option.{option_map_or}
use Rattle.std.specs.Prelude.{sum_by}
use Rattle.ble_base.specs.ErrorCodes.{command_disallowed, connection_already_exists, connection_limit_exceeded, invalid_hci_parameters, limited_resources, memory_capacity_exceeded, unsupported_feature_or_value}
use Rattle.ble_base.specs.declared.addresses.Address.{Address}
use Rattle.ble_base.specs.declared.procedure_kinds.Kind.TheVariants.{Phy, Features, Version, Length, Encrypt}
use Rattle.hci_cmd.specs.declared.command.HandleCount.{HandleCount}
use Rattle.hci_cmd.specs.declared.command.Command.{Command}
use Rattle.hci_cmd.specs.declared.command.Command.TheVariants.{Disconnect, ReadRemoteVersion, SetHostFlow, HostBufferSize, HostCompleted, LeSetRandomAddress, LeSetAdvParams, LeSetAdvData, LeSetScanResponse, LeSetAdvEnable, LeSetScanParams, LeSetScanEnable, LeCreateConnection, LeCreateCancel, LeClearList, LeAddToList, LeRemoveFromList, LeConnectionUpdate, LeSetChannels, LeReadChannelMap, LeReadRemoteFeatures, LeEnableEncryption, LeKeyReply, LeKeyNegative, LeParamReply, LeParamNegative, LeSetDataLength, LeReadPhy, LeSetDefaultPhy, LeSetPhy}
use Rattle.ble_base.specs.ChannelMap.{used_channels}
use Rattle.scan_init.specs.Addresses.{is_full_for, is_same_address}
use Rattle.host_view.specs.declared.links.Link.{Link}
use Rattle.host_view.specs.View.{View}
use Rattle.host_view.specs.Links.{link_in, is_asked, is_central_role, link_has, update_kind}
use Rattle.host_view.specs.Refusals.{first_refusal, link_rows, asked_row, parameters_row, is_generated, own_rows, is_connectable, is_full, room_row, list_row, both_phys_rows, scan_times_row}

-- ---- flow control towards the host (sections 7.3.38 to 7.3.40)

abbrev pub has_link : View → Bool
has_link view = list_any is_some view.links

abbrev pub set_host_flow_rows : View → ℕ → List (Bool × ℕ)
set_host_flow_rows view value =
    (has_link view, command_disallowed)
    ∷ ((value == 2) || (value == 3), unsupported_feature_or_value)
    ∷ (nat_lt 3 value, invalid_hci_parameters) ∷ []

abbrev pub host_buffer_size_rows : View → ℕ → ℕ → List (Bool × ℕ)
host_buffer_size_rows view acl_length acl_count =
    (has_link view, command_disallowed) ∷ (nat_lt acl_length 27 || (acl_count == 0), invalid_hci_parameters) ∷ []

-- the packets that the host says it has taken of this handle
abbrev pub count_for : ℕ → List HandleCount → ℕ
count_for handle counts = sum_by (λ pair. pair.count) (filter (λ pair. pair.handle == handle) counts)

abbrev pub may_complete : List (Option Link) → List HandleCount → HandleCount → Bool
may_complete links counts pair =
    link_has (link_in links pair.handle) (λ link. nat_le (count_for pair.handle counts) link.outstanding)

abbrev pub host_completed_rows : View → List HandleCount → List (Bool × ℕ)
host_completed_rows view counts =
    (view.flow.on && not (list_all (may_complete view.links counts) counts), invalid_hci_parameters) ∷ []

-- ---- advertising (sections 7.8.4 to 7.8.9)

abbrev pub is_active : View → Bool
is_active view = view.advertising.on || (view.scanning.on || is_some view.initiating)

-- 20 ms to 10.24 s, in units of 0.625 ms
abbrev pub are_intervals : ℕ → ℕ → Bool
are_intervals min max =
    nat_le 0x0020 min && (nat_le min 0x4000 && (nat_le 0x0020 max && (nat_le max 0x4000 && nat_le min max)))

abbrev pub advertising_parameters_rows : View → ℕ → ℕ → ℕ → ℕ → ℕ → ℕ → ℕ → List (Bool × ℕ)
advertising_parameters_rows view min max kind own peer_kind channels policy =
    (view.advertising.on, command_disallowed)
    ∷ (not (are_intervals min max), invalid_hci_parameters)
    -- high duty directed advertising, which is type 1, is not supported; types end at 4
    ∷ (kind == 1, unsupported_feature_or_value)
    ∷ (nat_lt 4 kind, invalid_hci_parameters)
    ∷ (is_generated own, unsupported_feature_or_value)
    ∷ (nat_lt 3 own, invalid_hci_parameters)
    ∷ (nat_lt 1 peer_kind, invalid_hci_parameters)
    -- one channel at least of three
    ∷ ((channels == 0) || nat_lt 7 channels, invalid_hci_parameters)
    ∷ (nat_lt 3 policy, invalid_hci_parameters)
    ∷ []

abbrev pub data_rows : ℕ → List (Bool × ℕ)
data_rows count = (nat_lt 31 count, invalid_hci_parameters) ∷ []

-- the rows for something that is turned on, where it was off
abbrev pub if_turned_on : Bool → List (Bool × ℕ) → List (Bool × ℕ)
if_turned_on true rows = rows
if_turned_on false rows = []

-- connectable advertising is turned on only where another link could be held
abbrev pub advertising_on_rows : View → List (Bool × ℕ)
advertising_on_rows view =
    own_rows view view.advertising.own (
    (is_connectable view.advertising.kind && is_full view, connection_limit_exceeded) ∷ [])

abbrev pub advertising_enable_rows : View → ℕ → List (Bool × ℕ)
advertising_enable_rows view value =
    (nat_lt 1 value, invalid_hci_parameters)
    ∷ if_turned_on ((value == 1) && not view.advertising.on) (advertising_on_rows view)

-- ---- scanning (sections 7.8.10 and 7.8.11)

abbrev pub scan_parameters_rows : View → ℕ → ℕ → ℕ → ℕ → ℕ → List (Bool × ℕ)
scan_parameters_rows view kind interval window own policy =
    (view.scanning.on, command_disallowed)
    ∷ (nat_lt 1 kind, invalid_hci_parameters)
    ∷ scan_times_row interval window
    ∷ (is_generated own, unsupported_feature_or_value)
    ∷ (nat_lt 3 own, invalid_hci_parameters)
    -- policies 2 and 3, for private addresses, are not supported; they end at 3
    ∷ ((policy == 2) || (policy == 3), unsupported_feature_or_value)
    ∷ (nat_lt 3 policy, invalid_hci_parameters)
    ∷ []

abbrev pub scan_on_rows : View → List (Bool × ℕ)
scan_on_rows view = (is_some view.initiating, command_disallowed) ∷ own_rows view view.scanning.own []

abbrev pub scan_enable_rows : View → ℕ → ℕ → List (Bool × ℕ)
scan_enable_rows view value duplicates =
    (nat_lt 1 value || nat_lt 1 duplicates, invalid_hci_parameters)
    ∷ if_turned_on ((value == 1) && not view.scanning.on) (scan_on_rows view)

-- ---- connecting (sections 7.8.12 and 7.8.13)

-- the link has the own address of this type: the random one for type 1, else the public one
abbrev pub has_own : View → ℕ → Link → Bool
has_own view own link =
    if own == 1
    then (link.own.random && option_map_or (λ random. bytes_eq link.own.octets random) view.random false)
    else not link.own.random

-- the address that a command names, by its type, 1 for a random one, and its octets
abbrev pub named_address : ℕ → List ℕ → Address
named_address kind octets = record { random = (kind == 1); octets = octets }

-- the link is with the peer of this address type and these octets
abbrev pub has_peer : ℕ → List ℕ → Link → Bool
has_peer kind octets link = is_same_address link.peer (named_address kind octets)

abbrev pub has_addresses : View → ℕ → ℕ → List ℕ → Link → Bool
has_addresses view own peer_kind peer link = has_own view own link && has_peer peer_kind peer link

-- a link with these addresses is open
abbrev pub is_connected : View → ℕ → ℕ → List ℕ → Bool
is_connected view own peer_kind peer =
    list_any (λ link. link_has link (has_addresses view own peer_kind peer)) view.links

-- a row that is looked at only where a peer is named, and not where the accept list names it (policy 1)
abbrev pub if_named : ℕ → Bool → Bool
if_named policy condition = (policy == 0) && condition

abbrev pub create_connection_rows : View → ℕ → ℕ → ℕ → ℕ → List ℕ → ℕ → ℕ → ℕ → ℕ → ℕ → List (Bool × ℕ)
create_connection_rows view interval window policy peer_kind peer own min max latency timeout =
    (is_some view.initiating || view.scanning.on, command_disallowed)
    ∷ scan_times_row interval window
    ∷ (nat_lt 1 policy, invalid_hci_parameters)
    -- peers 2 and 3, which are identities, are not supported; types end at 3
    ∷ (if_named policy (is_generated peer_kind), unsupported_feature_or_value)
    ∷ (if_named policy (nat_lt 3 peer_kind), invalid_hci_parameters)
    ∷ own_rows view own (
    parameters_row min max latency timeout
    ∷ (if_named policy (is_connected view own peer_kind peer), connection_already_exists)
    ∷ room_row view
    ∷ (not view.has_address, limited_resources)
    ∷ [])

-- ---- the accept list (sections 7.8.14 to 7.8.17)

abbrev pub add_to_list_rows : View → ℕ → List ℕ → List (Bool × ℕ)
add_to_list_rows view kind octets =
    list_row view
    ∷ (nat_lt 1 kind, invalid_hci_parameters)
    ∷ (is_full_for view.accepted (named_address kind octets), memory_capacity_exceeded) ∷ []

abbrev pub remove_from_list_rows : View → ℕ → List (Bool × ℕ)
remove_from_list_rows view kind = list_row view ∷ (nat_lt 1 kind, invalid_hci_parameters) ∷ []

-- ---- links (sections 7.1 and 7.8)

-- a host may give these reasons to end a link (section 7.1.6)
abbrev pub is_reason : ℕ → Bool
is_reason reason =
    (reason == 0x05) || ((reason == 0x13) || ((reason == 0x14)
    || ((reason == 0x15) || ((reason == 0x1A) || ((reason == 0x29) || (reason == 0x3B))))))

abbrev pub disconnect_rows : Option Link → ℕ → List (Bool × ℕ)
disconnect_rows link reason = link_rows link ((not (is_reason reason), invalid_hci_parameters) ∷ [])

abbrev pub connection_update_rows : Option Link → ℕ → ℕ → ℕ → ℕ → List (Bool × ℕ)
connection_update_rows link min max latency timeout =
    link_rows link (
    parameters_row min max latency timeout
    ∷ (link_has link (λ l. is_asked (update_kind l.role) l.asked), command_disallowed) ∷ [])

-- a map has two data channels at least
abbrev pub channels_rows : ℕ → List (Bool × ℕ)
channels_rows map = (nat_lt (length (used_channels map)) 2 || nat_le (2 ^ 37) map, invalid_hci_parameters) ∷ []

abbrev pub enable_encryption_rows : Option Link → List (Bool × ℕ)
enable_encryption_rows link =
    link_rows link (
    (link_has link (λ l. not (is_central_role l.role)), command_disallowed)
    ∷ asked_row Encrypt link
    ∷ [])

abbrev pub key_rows : Option Link → List (Bool × ℕ)
key_rows link = link_rows link ((link_has link (λ l. not l.waits_for_key), command_disallowed) ∷ [])

abbrev pub parameter_request_row : Option Link → Bool × ℕ
parameter_request_row link = (link_has link (λ l. not l.waits_for_parameters), command_disallowed)

-- a payload of 27 to 251 octets, and its time of 328 to 17040 microseconds (section 7.8.33)
abbrev pub is_data_length : ℕ → ℕ → Bool
is_data_length most time = nat_le 0x001B most && (nat_le most 0x00FB && (nat_le 0x0148 time && nat_le time 0x4290))

abbrev pub data_length_rows : Option Link → ℕ → ℕ → List (Bool × ℕ)
data_length_rows link most time =
    link_rows link ((not (is_data_length most time), invalid_hci_parameters) ∷ asked_row Length link ∷ [])

-- ---- all commands

abbrev pub rows_of : View → Command → List (Bool × ℕ)
rows_of view (Disconnect handle reason) = disconnect_rows (link_in view.links handle) reason
rows_of view (ReadRemoteVersion handle) =
    link_rows (link_in view.links handle) (asked_row Version (link_in view.links handle) ∷ [])
rows_of view (SetHostFlow value) = set_host_flow_rows view value
rows_of view (HostBufferSize acl_length sco_length acl_count sco_count) =
    host_buffer_size_rows view acl_length acl_count
rows_of view (HostCompleted counts) = host_completed_rows view counts.items
rows_of view (LeSetRandomAddress address) = (is_active view, command_disallowed) ∷ []
rows_of view (LeSetAdvParams min max kind own peer_kind peer channels policy) =
    advertising_parameters_rows view min max kind own peer_kind channels policy
rows_of view (LeSetAdvData count text) = data_rows count
rows_of view (LeSetScanResponse count text) = data_rows count
rows_of view (LeSetAdvEnable value) = advertising_enable_rows view value
rows_of view (LeSetScanParams kind interval window own policy) =
    scan_parameters_rows view kind interval window own policy
rows_of view (LeSetScanEnable value duplicates) = scan_enable_rows view value duplicates
rows_of view (LeCreateConnection interval window policy peer_kind peer own min max latency timeout lengths) =
    create_connection_rows view interval window policy peer_kind peer own min max latency timeout
rows_of view LeCreateCancel = (is_none view.initiating, command_disallowed) ∷ []
rows_of view LeClearList = list_row view ∷ []
rows_of view (LeAddToList kind address) = add_to_list_rows view kind address
rows_of view (LeRemoveFromList kind address) = remove_from_list_rows view kind
rows_of view (LeConnectionUpdate handle min max latency timeout lengths) =
    connection_update_rows (link_in view.links handle) min max latency timeout
rows_of view (LeSetChannels map) = channels_rows map
rows_of view (LeReadChannelMap handle) = link_rows (link_in view.links handle) []
rows_of view (LeReadRemoteFeatures handle) =
    link_rows (link_in view.links handle) (asked_row Features (link_in view.links handle) ∷ [])
rows_of view (LeEnableEncryption handle rand ediv key) = enable_encryption_rows (link_in view.links handle)
rows_of view (LeKeyReply handle key) = key_rows (link_in view.links handle)
rows_of view (LeKeyNegative handle) = key_rows (link_in view.links handle)
rows_of view (LeParamReply handle min max latency timeout lengths) =
    link_rows (link_in view.links handle) (
    parameter_request_row (link_in view.links handle) ∷ parameters_row min max latency timeout ∷ [])
rows_of view (LeParamNegative handle reason) =
    link_rows (link_in view.links handle) (parameter_request_row (link_in view.links handle) ∷ [])
rows_of view (LeSetDataLength handle most time) = data_length_rows (link_in view.links handle) most time
rows_of view (LeReadPhy handle) = link_rows (link_in view.links handle) []
rows_of view (LeSetDefaultPhy all tx rx) = both_phys_rows all tx rx []
rows_of view (LeSetPhy handle all tx rx options) =
    link_rows (link_in view.links handle) (both_phys_rows all tx rx (asked_row Phy (link_in view.links handle) ∷ []))
-- the others have no condition: masks, Reset, and the commands that read, encrypt a block or draw a number
rows_of view other = []

-- the status of a command: 00 where it is accepted, which it is where no condition holds
unfoldable pub status_of : View → Command → ℕ
status_of view command = first_refusal (rows_of view command)
