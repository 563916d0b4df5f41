-- The open links as a turn begins and ends: which end, which enter an event, and which want the radio (Core 5.2,
-- volume 6 part B, sections 4.5.1, 4.5.2 and 5.1.6).
use Rattle.std.specs.Prelude.{ℕ, ◌+◌, ◌==◌, ◌&&◌, Bool, false, List, [], ◌∷◌, ◌++◌, map, Option, Some, None, is_some, if◌then◌else◌}
use Rattle.std.specs.List.{list_any}
use Rattle.std.specs.Option.{option_and_then, option_map}
use Rattle.ble_base.specs.declared.error_codes.ErrCode.{ErrCode}
use Rattle.ble_base.specs.declared.notes.Note.{Note}
use Rattle.slot_plan.specs.declared.Want.{Want}
use Rattle.instants.specs.Track.{next_anchor_of}
use Rattle.link_end.specs.control_end.declared.answers.Entry.{Entry}
use Rattle.link_end.specs.control_end.Answers.{entry_of}
use Rattle.link_end.specs.control_end.Held.{held_of}
use Rattle.open_links.specs.declared.ended.LinkEnded.{LinkEnded}
use Rattle.open_links.specs.Ended.{end_by}
use Rattle.open_links.specs.Wants.{want_if}
use Rattle.link_end.specs.link_model.Controls.{goes_on, is_quiet_now}
use Rattle.link_end.specs.link_model.End.{notes_after}
use Rattle.link_end.specs.link_model.Step.{EventEntered}
use Rattle.link_end.specs.link_model.Times.{due_of, ending_of, wants_of}
use Rattle.open_links.specs.OpenLinks.{Links, OpenLink, facts_in, link_after, with_change}

-- ---- links that end for a reason, which some links have

-- each of them with its reason, by handle from this one on (our choice)
abbrev pub ends_by : (OpenLink → Option ℕ) → ℕ → Links → List LinkEnded
ends_by reason handle [] = []
ends_by reason handle (None ∷ links) = ends_by reason (handle + 1) links
ends_by reason handle (Some link ∷ links) =
    end_by handle (reason link) ++ ends_by reason (handle + 1) links

-- the reason for which a link that may be under a handle ends
abbrev pub reason_at : (OpenLink → Option ℕ) → Option OpenLink → Option ℕ
reason_at reason place = option_and_then reason place

-- a link stays where it has no reason
abbrev pub staying_by : Option ℕ → OpenLink → Option OpenLink
staying_by None link = Some link
staying_by (Some code) link = None

-- the place of the link that may be under a handle, empty where there is a reason to end it
abbrev pub place_without : (OpenLink → Option ℕ) → Option OpenLink → Option OpenLink
place_without reason place = option_and_then (λ link. staying_by (reason link) link) place

-- the links that stay
abbrev pub links_without : (OpenLink → Option ℕ) → Links → Links
links_without reason links = map (place_without reason) links

-- some link has a reason
abbrev pub some_ends : (OpenLink → Option ℕ) → Links → Bool
some_ends reason links = list_any (λ place. is_some (reason_at reason place)) links

-- ---- the two reasons

-- the reason at the start of a turn in this slot (sections 4.5.2, 5.1.6 and 5.2)
abbrev pub due_in : ℕ → OpenLink → Option ℕ
due_in slot link = due_of link.setup (facts_in link) slot

-- the reason at the end of a turn (section 5.1.6)
abbrev pub ending_in : OpenLink → Option ℕ
ending_in link = option_map (λ (code : ErrCode). code.0) (ending_of (facts_in link))

-- ---- events

-- the next anchor of a link is in this slot (section 4.5.1)
abbrev pub is_anchor : ℕ → OpenLink → Bool
is_anchor slot link = next_anchor_of (facts_in link).control.track == slot

-- a link enters its event at the anchor, whether it gets the radio or not (our choice), unless a procedure ended it
abbrev pub enters_in : ℕ → OpenLink → Bool
enters_in slot link = goes_on (facts_in link) && is_anchor slot link

-- a link that enters its event, or does not
abbrev pub entered_if : Bool → ℕ → OpenLink → OpenLink
entered_if enters slot link = if enters then link_after (EventEntered slot) link else link

-- a link as this slot begins
abbrev pub link_entered : ℕ → OpenLink → OpenLink
link_entered slot link = entered_if (enters_in slot link) slot link

-- the links after the one under a handle, if it is open, entered its event
abbrev pub links_entered : ℕ → ℕ → Links → Links
links_entered slot handle links = with_change handle (link_entered slot) links

-- what comes of the event of a link (sections 5.1 and 5.5)
abbrev pub entry_in : ℕ → OpenLink → Entry
entry_in slot link = entry_of slot (is_quiet_now (facts_in link)) (held_of (facts_in link).control)

-- what comes of the event of the link that may be under a handle, if it enters one
abbrev pub entry_at : ℕ → Option OpenLink → Option Entry
entry_at slot None = None
entry_at slot (Some link) = if enters_in slot link then Some (entry_in slot link) else None

-- what a link notes that enters its event, or does not
abbrev pub notes_if : Bool → ℕ → OpenLink → List Note
notes_if enters slot link = if enters then notes_after link.setup (facts_in link) (EventEntered slot) else []

-- what the link that may be under a handle notes as this slot begins
abbrev pub notes_entering : ℕ → Option OpenLink → List Note
notes_entering slot None = []
notes_entering slot (Some link) = notes_if (enters_in slot link) slot link

-- ---- who wants the radio

-- a link wants the radio for an event that it enters, unless it skips it (section 4.5.1)
abbrev pub wants_if : Bool → ℕ → OpenLink → Bool
wants_if enters slot link =
    if enters then wants_of link.setup (facts_in (link_after (EventEntered slot) link)) else false

-- a link wants the radio as this slot begins
abbrev pub wants_entering : ℕ → OpenLink → Bool
wants_entering slot link = wants_if (enters_in slot link) slot link

-- what the link that may be under a handle adds to the plan
abbrev pub want_entering : ℕ → ℕ → Option OpenLink → List Want
want_entering slot handle None = []
want_entering slot handle (Some link) = want_if (wants_entering slot link) handle link.last_served
