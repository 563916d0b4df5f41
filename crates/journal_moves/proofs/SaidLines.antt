-- What a side does next by its lines, line by line; and what a controller does first in each turn, call by call.
use Rattle.std.proofs.Common.{◌≡◌, ℕ, ◌==◌, Bool, true, false, Option, Some, None, List, [], ◌∷◌, ◌++◌, map, refl, sym, ap, ◌∙◌, append-nil, append_assoc, if◌then◌else◌}
use Rattle.std.specs.Option.{option_map}
use Rattle.ble_base.specs.declared.notes.Note.{Note}
use Rattle.ble_base.specs.declared.notes.Note.TheVariants.{Took as TookNote, Up as UpNote}
use Rattle.ble_base.specs.declared.roles.Side.{Side}
use Rattle.journal.specs.declared.entries.Entry.{Entry}
use Rattle.journal_wants.specs.controller_model.declared.doing.Doing.{Doing}
use Rattle.journal_wants.specs.controller_model.declared.doing.Doing.TheVariants.{Advertises, PeripheralSends}
use Rattle.journal_wants.specs.controller_model.Facts.{Setup}
use Rattle.journal_wants.specs.controller_model.Side.{facts_after, notes_after}
use Rattle.journal_wants.specs.controller_model.Step.{HostOctet, NothingHeard, PacketHeard, Step, TurnBegins, TurnEnds}
use Rattle.journal_wants.specs.journal_controls.journal_ends.Asked.{Words}
use Rattle.journal_wants.specs.journal_packets.Belonging.{is_side}
use Rattle.journal_wants.specs.run_model.History.{Called, Event, HostFed, Noted, past_of}
use Rattle.journal_wants.specs.run_model.Journal.{entries_of, entry_of, journal_of, side_of}
use Rattle.journal_wants.specs.run_model.Links.{links_of}
use Rattle.journal_wants.specs.run_model.Run.{Given, after_call, after_feed, after_octets, facts_at, setup_at}
use Rattle.journal_wants.specs.Station.{Setups}
use Rattle.journal_wants.proofs.RunStations.{doing_begun, doing_more}
use Rattle.journal_wants.proofs.run_model.Calls.{past_by, past_other}
use Rattle.journal_wants.proofs.run_model.Parts.{journal_event}
use Rattle.journal_moves.specs.Doing.{after_taking, doing_after, doing_from, doing_kept}

-- ---- one line more

from_more : (words : Words) (setups : Setups) (side : Side) (front : List Entry) (kept : Option Doing)
    (lines : List Entry) (line : Entry)
    → doing_from words setups side front kept (lines ++ line ∷ [])
    ≡ doing_after words setups side (front ++ lines) (doing_from words setups side front kept lines) line
from_more words setups side front kept [] line =
    ap (λ xs. doing_after words setups side xs kept line) (sym (append-nil front))
from_more words setups side front kept (first ∷ lines) line =
    from_more words setups side (front ++ first ∷ []) (doing_after words setups side front kept first) lines line
    ∙ ap (λ xs. doing_after words setups side xs
    (doing_from words setups side (front ++ first ∷ []) (doing_after words setups side front kept first) lines) line)
    (append_assoc front (first ∷ []) lines)

pub kept_more : (words : Words) (setups : Setups) (side : Side) (front : List Entry) (line : Entry)
    → doing_kept words setups side (front ++ line ∷ [])
    ≡ doing_after words setups side front (doing_kept words setups side front) line
unfolding doing_kept
kept_more words setups side front line = from_more words setups side [] None front line

-- ---- a line of a note changes nothing, but for a PDU that a peripheral takes which is to answer

abbrev pub answers_link : Doing → Bool
answers_link (PeripheralSends handle) = true
answers_link other = false

abbrev pub is_answering : Option Doing → Bool
is_answering None = false
is_answering (Some doing) = answers_link doing

taking_still : (words : Words) (side : Side) (front : List Entry) (doing : Doing) → answers_link doing ≡ false
    → after_taking words side front doing ≡ doing
taking_still words side front (PeripheralSends handle) quiet = absurd (let h : true ≡ false = quiet in absurd cc)
taking_still words side front (Advertises channel) quiet = refl
taking_still words side front other quiet = refl

mapped_still : (words : Words) (side : Side) (front : List Entry) (kept : Option Doing) → is_answering kept ≡ false
    → option_map (after_taking words side front) kept ≡ kept
mapped_still words side front None quiet = refl
mapped_still words side front (Some doing) quiet = ap Some (taking_still words side front doing quiet)

note_still : (words : Words) (setups : Setups) (own side : Side) (link_of : ℕ → ℕ) (last : ℕ) (front : List Entry)
    (kept : Option Doing) (note : Note)
    → (is_side own side ≡ true → is_answering kept ≡ false)
    → doing_after words setups side front kept (entry_of own link_of last note) ≡ kept
note_still words setups own side link_of last front kept (TookNote handle count llid body) quiet =
    let line = entry_of own link_of last (TookNote handle count llid body) in
    by (is_side own side) refl (mapped_still words side (front ++ line ∷ []) kept)
  where
    by : (same : Bool) → is_side own side ≡ same → {then_on : Option Doing}
        → (is_answering kept ≡ false → then_on ≡ kept)
        → (if same then then_on else kept) ≡ kept
    by true same is = is (quiet same)
    by false differs is = refl
note_still words setups own side link_of last front kept (UpNote packet) quiet = refl
note_still words setups own side link_of last front kept note quiet = refl

-- ---- event by event

module _ (words : Words) (setups : Setups) where
  abbrev pub said_at : ℕ → List Event → Option Doing
  said_at station history = doing_kept words setups (side_of station) (journal_of history)

  pub line_said : (station : ℕ) (history : List Event) (event : Event) (line : Entry)
      → entries_of (links_of history) event ≡ line ∷ []
      → said_at station (history ++ event ∷ [])
      ≡ doing_after words setups (side_of station) (journal_of history) (said_at station history) line
  line_said station history event line is =
      ap (doing_kept words setups (side_of station))
      (journal_event history event ∙ ap (λ xs. journal_of history ++ xs) is)
      ∙ kept_more words setups (side_of station) (journal_of history) line

  pub none_said : (station : ℕ) (history : List Event) (event : Event) → entries_of (links_of history) event ≡ []
      → said_at station (history ++ event ∷ []) ≡ said_at station history
  none_said station history event is =
      ap (doing_kept words setups (side_of station))
      (journal_event history event ∙ ap (λ xs. journal_of history ++ xs) is ∙ append-nil (journal_of history))

  notes_said : (one station : ℕ) (notes : List Note) (history : List Event)
      → (is_side (side_of one) (side_of station) ≡ true → is_answering (said_at station history) ≡ false)
      → said_at station (history ++ map (Noted one) notes) ≡ said_at station history
  notes_said one station [] history quiet = ap (said_at station) (append-nil history)
  notes_said one station (note ∷ notes) history quiet =
      let next = history ++ Noted one note ∷ [] in
      let link_of = (links_of history).link_of one in
      let last = (links_of history).last_of one in
      let same : said_at station next ≡ said_at station history =
      line_said station history (Noted one note) (entry_of (side_of one) link_of last note) refl
      ∙ note_still words setups (side_of one) (side_of station) link_of last (journal_of history)
      (said_at station history) note quiet in
      ap (said_at station) (sym (append_assoc history (Noted one note ∷ []) (map (Noted one) notes)))
      ∙ notes_said one station notes next (λ own. ap is_answering same ∙ quiet own) ∙ same

  pub call_said : (one station : ℕ) (step : Step) (notes : List Note) (history : List Event)
      → (is_side (side_of one) (side_of station) ≡ true → is_answering (said_at station history) ≡ false)
      → said_at station (history ++ Called one step ∷ map (Noted one) notes) ≡ said_at station history
  call_said one station step notes history quiet =
      let called = history ++ Called one step ∷ [] in
      let same = none_said station history (Called one step) refl in
      ap (said_at station) (sym (append_assoc history (Called one step ∷ []) (map (Noted one) notes)))
      ∙ notes_said one station notes called (λ own. ap is_answering same ∙ quiet own) ∙ same

  -- ---- while nothing is decided, feeds and calls decide nothing

  pub call_none : (given : Given) (one station : ℕ) (step : Step) (history : List Event)
      → said_at station history ≡ None
      → said_at station (after_call given one step history) ≡ None
  call_none given one station step history none =
      call_said one station step (notes_after (setup_at given one) (facts_at given one history) step) history
      (λ own. ap is_answering none) ∙ none

  octets_none : (given : Given) (one station : ℕ) (octets : List ℕ) (history : List Event)
      → said_at station history ≡ None
      → said_at station (after_octets given one octets history) ≡ None
  octets_none given one station [] history none = none
  octets_none given one station (octet ∷ octets) history none =
      octets_none given one station octets (after_call given one (HostOctet octet) history)
      (call_none given one station (HostOctet octet) history none)

  pub feed_none : (given : Given) (one station : ℕ) (octets : List ℕ) (history : List Event)
      → said_at station history ≡ None
      → said_at station (after_feed given one octets history) ≡ None
  feed_none given one station [] history none = none
  feed_none given one station (octet ∷ octets) history none =
      let event = HostFed one (octet ∷ octets) in
      octets_none given one station (octet ∷ octets) (history ++ event ∷ [])
      (line_said station history event _ refl ∙ none)

-- ---- what a controller does first in the turn that it began last

abbrev pub begins_it : Step → Bool
begins_it (TurnBegins slot on) = true
begins_it step = false

begun_same : (setup : Setup) (past : List Step) (step : Step) → begins_it step ≡ false
    → doing_begun setup (past ++ step ∷ []) ≡ doing_begun setup past
begun_same setup past (HostOctet octet) is = doing_more setup past (HostOctet octet)
begun_same setup past (TurnBegins slot on) is = absurd (let h : true ≡ false = is in absurd cc)
begun_same setup past (PacketHeard octets) is = doing_more setup past (PacketHeard octets)
begun_same setup past NothingHeard is = doing_more setup past NothingHeard
begun_same setup past TurnEnds is = doing_more setup past TurnEnds

abbrev pub begun_at : Given → ℕ → List Event → Doing
begun_at given station history = doing_begun (setup_at given station) (past_of station history)

pub begun_then : (given : Given) (station slot : ℕ) (on : Bool) (history : List Event) (other : ℕ)
    → (other == station) ≡ true
    → begun_at given other (after_call given station (TurnBegins slot on) history)
    ≡ (facts_after (setup_at given other) (facts_at given other history) (TurnBegins slot on)).turn.doing
begun_then given station slot on history other same =
    ap (doing_begun (setup_at given other))
    (past_by other station (TurnBegins slot on)
    (notes_after (setup_at given station) (facts_at given station history) (TurnBegins slot on)) history true same)
    ∙ doing_more (setup_at given other) (past_of other history) (TurnBegins slot on)

pub begun_called : (given : Given) (station : ℕ) (step : Step) (history : List Event) (other : ℕ) (same : Bool)
    → (other == station) ≡ same
    → (same ≡ true → begins_it step ≡ false)
    → begun_at given other (after_call given station step history) ≡ begun_at given other history
begun_called given station step history other true same quiet =
    ap (doing_begun (setup_at given other))
    (past_by other station step
    (notes_after (setup_at given station) (facts_at given station history) step) history true same)
    ∙ begun_same (setup_at given other) (past_of other history) step (quiet refl)
begun_called given station step history other false differs quiet =
    ap (doing_begun (setup_at given other))
    (past_other other station step
    (notes_after (setup_at given station) (facts_at given station history) step) history differs)
