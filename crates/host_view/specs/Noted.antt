-- How what a controller notes of itself changes the view (our choice: the view follows the notes).
use Rattle.std.specs.Prelude.{ℕ, ◌+◌, ◌*◌, ◌%◌, ◌==◌, ◌&&◌, Bool, true, false, List, [], ◌∷◌, slice_index, slice_set, Some, None, if◌then◌else◌}
use Rattle.ble_base.specs.declared.addresses.Address.{Address}
use Rattle.ble_base.specs.declared.roles.Role.{Role}
use Rattle.ble_base.specs.declared.roles.Role.TheVariants.{Central, Peripheral}
use Rattle.ble_base.specs.declared.notes.Note.{Note}
use Rattle.ble_base.specs.declared.notes.Note.TheVariants.{Up, Opened, Shut, Took, Refused, Done}
use Rattle.host_view.specs.declared.links.Asked.{Asked}
use Rattle.host_view.specs.declared.links.Link.{Link}
use Rattle.host_view.specs.declared.changes.LinkChange.TheVariants.{Answered, Completed, Encrypted, Key, Parameters, HandedUp}
use Rattle.host_view.specs.View.{View}
use Rattle.host_view.specs.Changes.{on_link, changed_by}

abbrev pub nothing_asked : Asked
nothing_asked = record {
  update = false;
  request = false;
  phy = false;
  features = false;
  version = false;
  length = false;
  encrypt = false;
}

-- a link as it is opened: nothing was asked for on it yet
abbrev pub opened_link : Role → Address → Address → Link
opened_link role own peer = record {
  role = role;
  own = own;
  peer = peer;
  disconnecting = false;
  asked = nothing_asked;
  waits_for_key = false;
  waits_for_parameters = false;
  keyed = false;
  encrypted = false;
  outstanding = 0;
}

-- a central stops initiating as its link is opened, and a peripheral stops advertising
-- (Core 5.2, volume 6 part B, sections 4.4.2.3 and 4.4.4)
abbrev pub stopped_by : Role → View → View
stopped_by Central view = record view { initiating = None }
stopped_by Peripheral view = record view { advertising = record view.advertising { on = false } }

-- a link is opened under this handle, in place of what was there; under a handle past the last place it is not kept
abbrev pub with_link : ℕ → Link → View → View
with_link handle link view = record (stopped_by link.role view) { links = slice_set view.links handle (Some link) }

abbrev pub without_link : ℕ → View → View
without_link handle view = record view { links = slice_set view.links handle None }

-- ---- packets to the host (Core 5.2, volume 4 part A, section 2, and part E, sections 5.4 and 7.7.65)

-- the number of two octets at this place
abbrev pub two_octets : ℕ → List ℕ → ℕ
two_octets place octets = slice_index octets place + 256 * slice_index octets (place + 1)

-- ACL data: the handle is in the low 12 bits of the two octets after the indicator
abbrev pub is_acl_data : List ℕ → Bool
is_acl_data octets = slice_index octets 0 == 2

abbrev pub acl_handle : List ℕ → ℕ
acl_handle octets = two_octets 1 octets % 4096

-- an LE event with this subevent code, whose handle is next
abbrev pub is_le_event : ℕ → List ℕ → Bool
is_le_event code octets =
    (slice_index octets 0 == 4) && ((slice_index octets 1 == 0x3E) && (slice_index octets 3 == code))

abbrev pub event_handle : List ℕ → ℕ
event_handle octets = two_octets 4 octets

-- data counts as outstanding while flow control is on
abbrev pub handed_up : List ℕ → View → View
handed_up octets view =
    if view.flow.on then on_link (acl_handle octets) (changed_by HandedUp) view else view

-- a request for a key, or for connection parameters, waits for the host (sections 7.7.65.5 and 7.7.65.6)
abbrev pub after_packet : List ℕ → View → View
after_packet octets view =
    if is_acl_data octets then handed_up octets view
    else if is_le_event 0x05 octets then on_link (event_handle octets) (changed_by (Key true)) view
    else if is_le_event 0x06 octets then on_link (event_handle octets) (changed_by (Parameters true)) view
    else view

-- ---- control PDUs (volume 6 part B, section 2.4.2)

-- LL_START_ENC_RSP: a control PDU, LLID 3, that has its opcode alone
abbrev pub is_start_rsp : ℕ → List ℕ → Bool
is_start_rsp llid [] = false
is_start_rsp llid (opcode ∷ []) = (llid == 3) && (opcode == 0x06)
is_start_rsp llid (opcode ∷ field ∷ fields) = false

-- LL_START_ENC_RSP was taken on the link, or not
abbrev pub encrypted_if : Bool → ℕ → View → View
encrypted_if starts handle view = if starts then on_link handle (changed_by Encrypted) view else view

-- the view after a note
unfoldable pub view_noted : View → Note → View
view_noted view (Up packet) = after_packet packet.items view
view_noted view (Opened handle role own peer) = with_link handle (opened_link role own peer) view
view_noted view (Shut handle reason) = without_link handle view
view_noted view (Took handle number llid body) = encrypted_if (is_start_rsp llid body.items) handle view
view_noted view (Refused handle kind code) = on_link handle (changed_by (Answered kind)) view
view_noted view (Done handle kind) = on_link handle (changed_by (Completed kind)) view
view_noted view other = view
