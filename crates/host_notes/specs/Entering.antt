-- The links that enter their events one after another, by what is noted of them.
use Rattle.std.specs.Prelude.{◌≡◌, ℕ, List, [], ◌++◌, Option, Some}
use Rattle.std.specs.Option.{option_map}
use Rattle.acl_banks.specs.declared.pieces.Piece.{Piece}
use Rattle.ble_base.specs.declared.notes.Note.{Note}
use Rattle.hci_evt.specs.declared.event.Event.{Event}
use Rattle.host_view.specs.View.{View}
use Rattle.instants.specs.declared.indications.Params.{Params}
use Rattle.slot_plan.specs.declared.Want.{Want}
use Rattle.control_end.specs.declared.answers.Entry.{Entry}
use Rattle.link_model.specs.Facts.{params_of}
use Rattle.open_links.specs.Knowing.{HeldLinks, Knows}
use Rattle.open_links.specs.OpenLinks.{Links, facts_in, link_at}
use Rattle.procedure_events.specs.Calls.{events_of_entry}
use Rattle.controller_model.specs.Entering.{all_entered, notes_all_entering, wants_from}

-- the parameters of the link under a handle, if it is open
abbrev pub params_at : ℕ → Links → Option Params
params_at handle links = option_map (λ link. params_of (facts_in link)) (link_at handle links)

-- the events for what came of an event of the link under a handle, with the parameters in it, if it entered one
abbrev pub events_told : ℕ → Option Entry → Option Params → List Event
events_told handle (Some entry) (Some params) = events_of_entry handle entry.updated params
events_told handle entry params = []

-- the links from this handle on, which are `rest`, have entered their events: it is noted, and they are added to the plan
pub record EntersRest (new : HeldLinks) (done rest : Links) (received : List (ℕ × Piece)) (view : View) (slot handle : ℕ)
    (before noted : List Note) (wanted wants : List Want) : Type 0 where
  pub knows : Knows new (done ++ all_entered slot rest) received
  pub notes : noted ≡ before ++ notes_all_entering view slot handle rest
  pub plan : wants ≡ wanted ++ wants_from slot handle rest
