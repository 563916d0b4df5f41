-- How an accepted command changes the view (Core 5.2, volume 4 part E, section 7).
use Rattle.std.specs.Prelude.{ℕ, ◌+◌, ◌-◌, min, ◌==◌, ◌||◌, Bool, true, false, List, [], fold, slice_set, Option, Some, None, if◌then◌else◌}
use Rattle.std.specs.Option.{option_map}
use Rattle.ble_base.specs.declared.procedure_kinds.Kind.{Kind}
use Rattle.ble_base.specs.declared.procedure_kinds.Kind.TheVariants.{Update, Request, Map, Phy, Features, Version, Length, Encrypt}
use Rattle.hci_cmd.specs.declared.command.HandleCount.{HandleCount}
use Rattle.hci_cmd.specs.declared.command.Command.{Command}
use Rattle.hci_cmd.specs.declared.command.Command.TheVariants.{Disconnect, ReadRemoteVersion, SetEventMask, Reset, SetHostFlow, HostBufferSize, HostCompleted, LeSetEventMask, LeSetRandomAddress, LeSetAdvParams, LeSetAdvEnable, LeSetScanParams, LeSetScanEnable, LeCreateConnection, LeCreateCancel, LeClearList, LeAddToList, LeRemoveFromList, LeConnectionUpdate, LeSetChannels, LeReadRemoteFeatures, LeEnableEncryption, LeKeyReply, LeKeyNegative, LeParamReply, LeParamNegative, LeSetDataLength, LeSetPhy}
use Rattle.scan_init.specs.Addresses.{with_address, without_address}
use Rattle.host_view.specs.declared.links.Asked.{Asked}
use Rattle.host_view.specs.declared.links.Link.{Link}
use Rattle.host_view.specs.declared.changes.LinkChange.{LinkChange}
use Rattle.host_view.specs.declared.changes.LinkChange.TheVariants.{Disconnecting, Asks, AsksUpdate, Answered, Completed, Encrypted, Key, Keyed, Parameters, HandedUp, Taken}
use Rattle.host_view.specs.View.{View, first_view}
use Rattle.host_view.specs.Links.{link_in, update_kind}
use Rattle.host_view.specs.Status.{named_address}

-- what the host asked for, with this procedure asked for or not
abbrev pub with_asked : Kind → Bool → Asked → Asked
with_asked Update value asked = record asked { update = value }
with_asked Request value asked = record asked { request = value }
with_asked Map value asked = asked
with_asked Phy value asked = record asked { phy = value }
with_asked Features value asked = record asked { features = value }
with_asked Version value asked = record asked { version = value }
with_asked Length value asked = record asked { length = value }
with_asked Encrypt value asked = record asked { encrypt = value }

-- the links, with a change of the one with this handle, if it is open
abbrev pub changed_at : ℕ → (Link → Link) → List (Option Link) → List (Option Link)
changed_at handle change links = slice_set links handle (option_map change (link_in links handle))

abbrev pub on_link : ℕ → (Link → Link) → View → View
on_link handle change view = record view { links = changed_at handle change view.links }

-- the procedure is asked for on the link, or no more
abbrev pub asking : Kind → Link → Link
asking kind link = record link { asked = with_asked kind true link.asked }

abbrev pub answered : Kind → Link → Link
answered kind link = record link { asked = with_asked kind false link.asked }

abbrev pub is_encryption : Kind → Bool
is_encryption Encrypt = true
is_encryption other = false

-- the procedure is done: a central is encrypted once that of encryption is (volume 6 part B, section 5.1.3.1)
abbrev pub completed : Kind → Link → Link
completed kind link = record (answered kind link) { encrypted = is_encryption kind || link.encrypted }

-- the host gave a key
abbrev pub keyed : Link → Link
keyed link = record link { waits_for_key = false; keyed = true }

-- LL_START_ENC_RSP was taken: a peripheral is encrypted from then on where its host gave a key, and not by one that it
-- does not await (volume 6 part B, section 5.1.3.1)
abbrev pub started : Link → Link
started link = record link { keyed = false; encrypted = link.keyed || link.encrypted }

-- what happens to a link
abbrev pub changed_by : LinkChange → Link → Link
changed_by Disconnecting link = record link { disconnecting = true }
changed_by (Asks kind) link = asking kind link
changed_by AsksUpdate link = asking (update_kind link.role) link
changed_by (Answered kind) link = answered kind link
changed_by (Completed kind) link = completed kind link
changed_by (Key waits) link = record link { waits_for_key = waits }
changed_by Keyed link = keyed link
changed_by (Parameters waits) link = record link { waits_for_parameters = waits }
changed_by Encrypted link = started link
changed_by HandedUp link = record link { outstanding = min (link.outstanding + 1) 65535 }
changed_by (Taken count) link = record link { outstanding = link.outstanding - count }

-- the links once the host has taken packets of one of them, and of all of these
abbrev pub after_count : List (Option Link) → HandleCount → List (Option Link)
after_count links pair = changed_at pair.handle (changed_by (Taken pair.count)) links

abbrev pub after_counts : List (Option Link) → List HandleCount → List (Option Link)
after_counts links counts = fold after_count links counts

abbrev pub after_completed : View → List HandleCount → View
after_completed view counts = if view.flow.on then record view { links = after_counts view.links counts } else view

-- the view after an accepted command on a link; the others read, or change what no status depends on
abbrev pub link_changed_by : Command → View → View
link_changed_by (Disconnect handle reason) view = on_link handle (changed_by Disconnecting) view
link_changed_by (ReadRemoteVersion handle) view = on_link handle (changed_by (Asks Version)) view
link_changed_by (LeConnectionUpdate handle min max latency timeout lengths) view =
    on_link handle (changed_by AsksUpdate) view
link_changed_by (LeReadRemoteFeatures handle) view = on_link handle (changed_by (Asks Features)) view
link_changed_by (LeEnableEncryption handle rand ediv key) view = on_link handle (changed_by (Asks Encrypt)) view
link_changed_by (LeKeyReply handle key) view = on_link handle (changed_by Keyed) view
link_changed_by (LeKeyNegative handle) view = on_link handle (changed_by (Key false)) view
link_changed_by (LeParamReply handle min max latency timeout lengths) view =
    on_link handle (changed_by (Parameters false)) view
link_changed_by (LeParamNegative handle reason) view = on_link handle (changed_by (Parameters false)) view
link_changed_by (LeSetDataLength handle most time) view = on_link handle (changed_by (Asks Length)) view
link_changed_by (LeSetPhy handle all tx rx options) view = on_link handle (changed_by (Asks Phy)) view
link_changed_by other view = view

-- the view after an accepted command
unfoldable pub view_after : View → Command → View
view_after view (SetEventMask mask) = record view { mask = mask }
view_after view Reset = first_view view.limit view.has_address
view_after view (SetHostFlow value) = record view { flow = record view.flow { on = (value == 1) } }
view_after view (HostBufferSize acl_length sco_length acl_count sco_count) =
    record view { flow = record view.flow { acl_length = acl_length; acl_count = acl_count } }
view_after view (HostCompleted counts) = after_completed view counts.items
view_after view (LeSetEventMask mask) = record view { le_mask = mask }
view_after view (LeSetRandomAddress address) = record view { random = Some address }
view_after view (LeSetAdvParams min max kind own peer_kind peer channels policy) =
    record view { advertising = record view.advertising { kind = kind; own = own; policy = policy } }
view_after view (LeSetAdvEnable value) = record view { advertising = record view.advertising { on = (value == 1) } }
view_after view (LeSetScanParams kind interval window own policy) =
    record view { scanning = record view.scanning { own = own; policy = policy } }
view_after view (LeSetScanEnable value duplicates) =
    record view { scanning = record view.scanning { on = (value == 1) } }
view_after view (LeCreateConnection interval window policy peer_kind peer own min max latency timeout lengths) =
    record view { initiating = Some policy }
view_after view LeCreateCancel = record view { initiating = None }
view_after view LeClearList = record view { accepted = [] }
view_after view (LeAddToList kind address) =
    record view { accepted = with_address view.accepted (named_address kind address) }
view_after view (LeRemoveFromList kind address) =
    record view { accepted = without_address view.accepted (named_address kind address) }
view_after view (LeSetChannels map) = record view { map = map }
view_after view other = link_changed_by other view
