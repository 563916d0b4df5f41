-- The open links of a controller after an accepted command of its host, and the view of them (our choice).
use Rattle.std.specs.Prelude.{ℕ, ◌+◌, Bool, List, [], ◌∷◌, Option, Some, None, if◌then◌else◌}
use Rattle.std.specs.Option.{option_map}
use Rattle.ble_base.specs.declared.procedure_kinds.Kind.{Kind}
use Rattle.hci_cmd.specs.declared.command.Command.{Command}
use Rattle.hci_cmd.specs.declared.command.Command.TheVariants.{LeReadRemoteFeatures, ReadRemoteVersion}
use Rattle.hci_evt.specs.declared.event.Event.{Event}
use Rattle.open_links.specs.link_model.Step.{Step}
use Rattle.open_links.specs.OpenLinks.{Links, OpenLink, facts_in, link_after, link_at}
use Rattle.host_view.specs.View.{View}
use Rattle.host_view.specs.Changes.{view_after}
use Rattle.link_commands.specs.declared.moments.Moment.{Moment}
use Rattle.link_commands.specs.Commands.{host_step_of, is_about}
use Rattle.link_commands.specs.Views.{events_at_once, kind_known, view_answered}

-- ---- the links

-- a link after the step that a command makes on it, if there is one
abbrev pub link_after_if : Option Step → OpenLink → OpenLink
link_after_if None link = link
link_after_if (Some step) link = link_after step link

abbrev pub open_link_commanded : Command → Moment → OpenLink → OpenLink
open_link_commanded command moment link =
    link_after_if (host_step_of command moment link.setup.link.role (facts_in link).peer) link

abbrev pub place_commanded : Bool → Command → Moment → Option OpenLink → Option OpenLink
place_commanded about command moment place = if about then option_map (open_link_commanded command moment) place else place

-- the links from this handle on
abbrev pub links_commanded_from : ℕ → Command → Moment → Links → Links
links_commanded_from handle command moment [] = []
links_commanded_from handle command moment (place ∷ links) =
    place_commanded (is_about handle command) command moment place
    ∷ links_commanded_from (handle + 1) command moment links

abbrev pub links_commanded : Command → Moment → Links → Links
links_commanded command moment links = links_commanded_from 0 command moment links

-- ---- the view

-- what the end of the link that may be under a handle knows already
abbrev pub known_in : Command → Option OpenLink → Option Kind
known_in command None = None
known_in command (Some link) = kind_known command (facts_in link).peer

-- what is answered at once is done
abbrev pub view_known_on : View → Command → Links → View
view_known_on view (ReadRemoteVersion handle) links =
    view_answered handle (known_in (ReadRemoteVersion handle) (link_at handle links)) view
view_known_on view (LeReadRemoteFeatures handle) links =
    view_answered handle (known_in (LeReadRemoteFeatures handle) (link_at handle links)) view
view_known_on view other links = view

-- the view after an accepted command
abbrev pub view_commanded_on : View → Command → Links → View
view_commanded_on view command links = view_known_on (view_after view command) command links

-- ---- what is answered at once

-- by what the end of the link that may be under a handle knows
abbrev pub events_known_in : Command → ℕ → Option OpenLink → List Event
events_known_in command handle None = []
events_known_in command handle (Some link) = events_at_once command handle (facts_in link).peer

-- the events that answer an accepted command at once
abbrev pub events_commanded_on : Command → Links → List Event
events_commanded_on (ReadRemoteVersion handle) links =
    events_known_in (ReadRemoteVersion handle) handle (link_at handle links)
events_commanded_on (LeReadRemoteFeatures handle) links =
    events_known_in (LeReadRemoteFeatures handle) handle (link_at handle links)
events_commanded_on other links = []
