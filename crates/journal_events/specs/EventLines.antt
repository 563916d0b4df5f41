-- The event of a link that an end entered last, from the lines of a journal alone: what it heard in it, whether a packet
-- of it says that more waits, and how long payloads may be (Core 5.2, volume 6 part B, sections 4.5.1, 4.5.6 and 4.5.10).
use Rattle.std.specs.Prelude.{ℕ, ◌==◌, ◌&&◌, ◌||◌, not, Bool, false, true, List, [], ◌∷◌, ◌++◌, Option, Some, None, if◌then◌else◌}
use Rattle.ble_base.specs.declared.roles.Side.{Side}
use Rattle.journal.specs.declared.entries.Entry.{Entry}
use Rattle.journal.specs.declared.entries.Entry.TheVariants.{Air, Enter, Opened}
use Rattle.journal_slots.specs.SecondSlot.{has_more}
use Rattle.journal_sending.specs.journal_leaving.journal_acks.Shut.{is_of_link}
use Rattle.journal_sending.specs.journal_leaving.journal_controls.LineSteps.{keyed_on, turn_now}
use Rattle.journal_sending.specs.journal_leaving.journal_controls.journal_ends.Asked.{Words}
use Rattle.journal_sending.specs.journal_leaving.journal_controls.link_model.Controls.{are_equal, is_long}
use Rattle.journal_sending.specs.journal_leaving.journal_controls.link_model.keyed_control.Keyed.{Keyed}
use Rattle.journal_sending.specs.journal_leaving.journal_packets.Belonging.{is_side}
use Rattle.journal_sending.specs.journal_leaving.run_model.History.{is_good}

pub record EventLines : Type 0 where
  -- its number, the slot of its anchor, and the latency that is in force in it
  pub number : ℕ
  pub slot : ℕ
  pub latency : ℕ
  -- in the slot of the anchor a good packet was heard, and a packet says that more waits
  pub heard : Bool
  pub more : Bool
  -- an effective length was over 27 octets as it was entered, and one was changed since
  pub long : Bool
  pub changed : Bool
  -- the event in which a good packet was heard last
  pub last_heard : Option ℕ

-- before the first event
abbrev pub no_event_lines : EventLines
no_event_lines = record {
  number = 0;
  slot = 0;
  latency = 0;
  heard = false;
  more = false;
  long = false;
  changed = false;
  last_heard = None;
}

-- ---- it is entered

-- in the turn of this slot, by an end that is like this before and like that in it
abbrev pub event_entering : (slot event : ℕ) → Option Keyed → Option Keyed → EventLines → EventLines
event_entering slot event (Some k) (Some entered) before = record before {
  number = event;
  slot = slot;
  latency = entered.phased.control.track.params.latency;
  heard = false;
  more = false;
  long = is_long k.phased.control.table.lengths;
  changed = false;
}
event_entering slot event k entered before = before

-- ---- packets in it

abbrev pub event_sending : (slot : ℕ) → Bool → EventLines → EventLines
event_sending slot more before = record before { more = before.more || ((slot == before.slot) && more) }

abbrev pub event_hearing : (slot : ℕ) → Bool → EventLines → EventLines
event_hearing slot more before = record before {
  heard = before.heard || (slot == before.slot);
  more = before.more || ((slot == before.slot) && more);
  last_heard = Some before.number;
}

-- a packet of the link, which the end sends itself, or which the other end sends and this one judges good, or not
abbrev pub event_passing : (slot : ℕ) → (own good more : Bool) → EventLines → EventLines
event_passing slot true good more before = event_sending slot more before
event_passing slot false true more before = event_hearing slot more before
event_passing slot false false more before = before

abbrev pub event_passed : Side → ℕ → List Entry → EventLines → Entry → EventLines
event_passed side number front before (Air sender channel octets fate verdict) =
    if is_of_link number front sender channel octets
    then event_passing (turn_now front) (is_side sender side) (is_good verdict) (has_more channel octets) before
    else before
event_passed side number front before line = before

-- ---- the lengths

-- the effective lengths of an end that is like this before a line and like that after it are not the same
abbrev pub lengths_differ : Option Keyed → Option Keyed → Bool
lengths_differ (Some before) (Some after) =
    not (are_equal before.phased.control.table.lengths after.phased.control.table.lengths)
lengths_differ before after = false

abbrev pub changed_if : Bool → EventLines → EventLines
changed_if differ before = record before { changed = before.changed || differ }

-- ---- line by line

abbrev pub event_after : Words → Side → ℕ → List Entry → EventLines → Entry → EventLines
event_after words side number front before (Opened other link handle role) =
    if is_side other side && link == number then no_event_lines else before
event_after words side number front before (Enter other link event channel) =
    if is_side other side && link == number
    then event_entering (turn_now front) event (keyed_on words side number front)
    (keyed_on words side number (front ++ Enter other link event channel ∷ [])) before
    else before
event_after words side number front before line =
    changed_if (lengths_differ (keyed_on words side number front) (keyed_on words side number (front ++ line ∷ [])))
    (event_passed side number front before line)

abbrev pub event_from : Words → Side → ℕ → List Entry → EventLines → List Entry → EventLines
event_from words side number front before [] = before
event_from words side number front before (line ∷ lines) =
    event_from words side number (front ++ line ∷ []) (event_after words side number front before line) lines

-- the event that a side entered last on the link with this number
unfoldable pub event_on : Words → Side → ℕ → List Entry → EventLines
event_on words side number journal = event_from words side number [] no_event_lines journal

-- ---- how many slots it has (our choice)

-- it goes on in the slot after that of its anchor: there a good packet was heard, a packet says that more waits, and no
-- payload may be longer than 27 octets, then and now
abbrev pub goes_on : EventLines → Bool
goes_on event = event.heard && event.more && (not event.long && not event.changed)

-- the radio is held for two slots where no payload may be longer than 27 octets, else for four
abbrev pub slots_held : EventLines → ℕ
slots_held event = if event.long then 4 else 2
