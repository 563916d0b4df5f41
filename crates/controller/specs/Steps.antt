-- The steps of a controller on what it holds, but for its links.
use Rattle.std.specs.Prelude.{ℕ, ◌+◌, ◌%◌, Bool, true, List, [], length, map, Option, is_some, if◌then◌else◌}
use Rattle.std.specs.Option.{option_and_then}
use Rattle.ble_base.specs.declared.notes.Note.{Note}
use Rattle.hci_cmd.specs.declared.command.Command.{Command}
use Rattle.hci_cmd.specs.declared.command.Command.TheVariants.{LeEnableEncryption, LeRand, Reset}
use Rattle.host_view.specs.Changes.{view_after}
use Rattle.host_view.specs.Noted.{view_noted}
use Rattle.scan_init.specs.Access.{next_access_of}
use Rattle.open_links.specs.declared.ended.LinkEnded.{LinkEnded}
use Rattle.open_links.specs.OpenLinks.{Links, handles_from}
use Rattle.controller_model.specs.Links.{note_shut, radio_without}
use Rattle.activities.specs.Steps.{activities_after}
use Rattle.controller.specs.Held.{Held}

-- the place of the random word where two are drawn, or none, of this number of words
abbrev pub place_drawn : Bool → ℕ → ℕ → ℕ
place_drawn draws count place = if draws then ((place + 1) % count + 1) % count else place

-- the same after an accepted command
abbrev pub place_after : ℕ → Command → ℕ → ℕ
place_after count LeRand place = (place + 1) % count
place_after count (LeEnableEncryption handle rand ediv key) place = place_drawn true count place
place_after count other place = place

-- what an accepted command changes
abbrev pub held_accepted : Held → Command → Held
held_accepted held command = record held {
  view = view_after held.view command;
  place = place_after (length held.setup.words) command held.place;
  activities = activities_after held.setup held.view held.turn.begun command held.activities;
}

-- a link is shut
abbrev pub held_shut : Held → LinkEnded → Held
held_shut held ended = record held {
  view = view_noted held.view (note_shut ended.handle ended.reason.0);
  activities = record held.activities { radio = radio_without ended.handle held.activities.radio };
}

-- the links that an accepted command shuts
abbrev pub links_notes : Command → Links → List Note
links_notes Reset links = map (λ handle. note_shut handle 0) (handles_from 0 links)
links_notes other links = []

-- a random word is drawn, and an access address is taken
abbrev pub access_after : ℕ → Option (ℕ × ℕ) → Option (ℕ × ℕ)
access_after cursor access = option_and_then (λ found. next_access_of cursor found.1) access

abbrev pub held_connecting : Held → Held
held_connecting held = record held {
  view = record held.view { has_address = is_some (access_after held.setup.cursor held.access) };
  place = (held.place + 1) % length held.setup.words;
  access = access_after held.setup.cursor held.access;
}
