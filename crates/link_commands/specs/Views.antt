-- The view of a link after an accepted command, and the events that answer the command at once (Core 5.2, volume 4 part
-- E, sections 7.1.23 and 7.8.21).
use Rattle.std.specs.Prelude.{ℕ, Bool, List, [], Option, Some, None, is_some, if◌then◌else◌}
use Rattle.ble_base.specs.declared.procedure_kinds.Kind.{Kind}
use Rattle.ble_base.specs.declared.procedure_kinds.Kind.TheVariants.{Features, Version}
use Rattle.ble_base.specs.declared.notes.Note.TheVariants.{Done}
use Rattle.hci_cmd.specs.declared.command.Command.{Command}
use Rattle.hci_cmd.specs.declared.command.Command.TheVariants.{LeReadRemoteFeatures, ReadRemoteVersion}
use Rattle.hci_evt.specs.declared.event.Event.{Event}
use Rattle.open_links.specs.link_model.declared.state.PeerFacts.{PeerFacts}
use Rattle.procedure_events.specs.Calls.{events_known}
use Rattle.host_view.specs.View.{View}
use Rattle.host_view.specs.Changes.{view_after}
use Rattle.host_view.specs.Noted.{view_noted}

-- what the end knows already, which is answered at once
abbrev pub kind_if : Bool → Kind → Option Kind
kind_if known kind = if known then Some kind else None

abbrev pub kind_known : Command → PeerFacts → Option Kind
kind_known (ReadRemoteVersion handle) peer = kind_if (is_some peer.version) Version
kind_known (LeReadRemoteFeatures handle) peer = kind_if (is_some peer.features) Features
kind_known other peer = None

-- the view takes that as done; it is not noted
abbrev pub view_answered : ℕ → Option Kind → View → View
view_answered handle None view = view
view_answered handle (Some kind) view = view_noted view (Done handle kind)

abbrev pub view_commanded : View → Command → ℕ → PeerFacts → View
view_commanded view command handle peer =
    view_answered handle (kind_known command peer) (view_after view command)

-- the events that answer it at once, after its Command Status (volume 4 part E, sections 7.1.23 and 7.8.21; that it is
-- answered at once is our choice)
abbrev pub events_if : ℕ → PeerFacts → Option Kind → List Event
events_if handle peer None = []
events_if handle peer (Some kind) = events_known handle peer kind

abbrev pub events_at_once : Command → ℕ → PeerFacts → List Event
events_at_once command handle peer = events_if handle peer (kind_known command peer)
