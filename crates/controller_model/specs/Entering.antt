-- The links as a turn begins: each enters its event, and its host hears of that before the next one does (Core 5.2,
-- volume 6 part B, sections 4.5.1, 4.5.8 and 5.1.1; volume 4 part E, section 7.7.65.3).
use Rattle.std.specs.Prelude.{◌≡◌, ℕ, ◌+◌, Bool, true, false, List, [], ◌∷◌, ◌++◌, map, Option, Some, None, IfSome, ⊤}
use Rattle.std.specs.Option.{option_map}
use Rattle.ble_base.specs.declared.notes.Note.{Note}
use Rattle.hci_evt.specs.declared.event.Event.{Event}
use Rattle.host_view.specs.View.{View}
use Rattle.instants.specs.declared.indications.Params.{Params}
use Rattle.instants.specs.Track.{next_anchor_of}
use Rattle.slot_plan.specs.declared.Want.{Want}
use Rattle.link_commands.specs.open_links.link_model.control_end.declared.answers.Entry.{Entry}
use Rattle.link_commands.specs.open_links.link_model.Controls.{goes_on}
use Rattle.link_commands.specs.open_links.link_model.Facts.{params_of}
use Rattle.link_commands.specs.open_links.OpenLinks.{Links, OpenLink, facts_in, has_entered, link_at}
use Rattle.link_commands.specs.open_links.Turns.{due_in, entry_at, link_entered, notes_entering, want_entering}
use Rattle.link_commands.specs.procedure_events.Calls.{events_of_entry}
use Rattle.controller_model.specs.declared.doing.Doing.{Doing}
use Rattle.controller_model.specs.declared.doing.Doing.TheVariants.{CentralSends, CentralListens, PeripheralListens, PeripheralSends}
use Rattle.controller_model.specs.Events.{notes_of_events}
use Rattle.controller_model.specs.Step.{Step, TurnBegins}

-- ---- one link

-- an update of the parameters that holds from the event on is reported
abbrev pub events_of : ℕ → Params → Option Entry → List Event
events_of handle params None = []
events_of handle params (Some entry) = events_of_entry handle entry.updated params

abbrev pub events_entering : ℕ → ℕ → Option OpenLink → List Event
events_entering slot handle None = []
events_entering slot handle (Some link) =
    events_of handle (params_of (facts_in (link_entered slot link))) (entry_at slot (Some link))

-- ---- all links, by handle from this one on (our choice)

abbrev pub all_entered : ℕ → Links → Links
all_entered slot links = map (option_map (link_entered slot)) links

abbrev pub notes_all_entering : View → ℕ → ℕ → Links → List Note
notes_all_entering view slot handle [] = []
notes_all_entering view slot handle (place ∷ links) =
    notes_entering slot place ++ notes_of_events view (events_entering slot handle place)
    ++ notes_all_entering view slot (handle + 1) links

abbrev pub wants_from : ℕ → ℕ → Links → List Want
wants_from slot handle [] = []
wants_from slot handle (place ∷ links) = want_entering slot handle place ++ wants_from slot (handle + 1) links

-- ---- which events are entered

-- the link under a handle enters this event in this slot, on this channel
pub record IsEntered (slot : ℕ) (links : Links) (handle event channel : ℕ) : Type 0 where
  pub link : OpenLink
  pub is_open : link_at handle links ≡ Some link
  -- it does not end in this slot, and none of its procedures ended it
  pub stays : due_in slot link ≡ None
  pub is_on : goes_on (facts_in link) ≡ true
  -- its next anchor is there
  pub at_anchor : next_anchor_of (facts_in link).control.track ≡ slot
  -- events are entered one after another, from 0 on
  pub is_next : event ≡ (facts_in link).control.track.entered
  pub on_its_channel : channel ≡ (facts_in (link_entered slot link)).event.channel

abbrev pub begins_turn : Step → Bool
begins_turn (TurnBegins slot on) = true
begins_turn step = false

-- ---- what is done on a link is in an event

-- the link that may be in a place entered an event
abbrev pub HasEntered : Option OpenLink → Type 0
HasEntered place = IfSome place (λ link. has_entered link ≡ true)

-- so did the link on which something is done, if it is one and is open
abbrev pub IsInEvent : Doing → Links → Type 0
IsInEvent (CentralSends handle) links = HasEntered (link_at handle links)
IsInEvent (CentralListens handle) links = HasEntered (link_at handle links)
IsInEvent (PeripheralListens handle) links = HasEntered (link_at handle links)
IsInEvent (PeripheralSends handle) links = HasEntered (link_at handle links)
IsInEvent other links = ⊤
