-- The parts of a turn, and the entries that each step of a run adds to a journal.
use Rattle.std.proofs.Common.{◌≡◌, ℕ, Bool, List, [], ◌∷◌, ◌++◌, refl, sym, ap, subst, ◌∙◌, append-nil, append_assoc, arith}
use Rattle.std.specs.Prelude.{flat_map, fold, map, Option, Some}
use Rattle.std.specs.List.{AllByRecursion}
use Rattle.std.proofs.lemmas.List.Concat.{flat_map-append}
use Rattle.ble_base.specs.declared.roles.Side.{Side}
use Rattle.ble_base.specs.declared.notes.Note.{Note}
use Rattle.ble_base.specs.declared.notes.Note.TheVariants.{Up as UpNote}
use Rattle.journal.specs.declared.entries.Entry.{Entry}
use Rattle.journal.specs.declared.entries.Entry.TheVariants.{Turn}
use Rattle.controller_model.specs.Step.{Step, HostOctet}
use Rattle.controller_model.specs.Side.{notes_after}
use Rattle.run_model.specs.History.{Event, HostFed, Called, Noted, Hearing}
use Rattle.run_model.specs.Links.{Links, first_links, links_after, links_of}
use Rattle.run_model.specs.Journal.{side_of, entry_of, air_entries, entries_of, journal_from, journal_of}
use Rattle.run_model.specs.Run.{Given, setup_at, facts_at, after_call, after_octets, after_feed}
use Rattle.run_model.specs.Order.{AreNotes, AreOfPart, AreOfParts, IsInOrder, Part, Feeding, Sending, Noting, TurnEntries, entries_in_turn, side_of_note, turn_parts}

-- ---- parts

more_parts : (parts : List Part) (others : List (List Entry)) (part : Part) (entries : List Entry) → AreOfParts parts others → AreOfPart part entries
    → AreOfParts (parts ++ part ∷ []) (others ++ entries ∷ [])
more_parts [] [] part entries all is = (is, tt)
more_parts [] (first ∷ others) part entries all is = absurd all
more_parts (first ∷ parts) [] part entries all is = absurd all
more_parts (first ∷ parts) (some ∷ others) part entries all is = (all.0, more_parts parts others part entries all.1 is)

-- parts that are left over have no entries
abbrev nothing_for : List Part → List (List Entry)
nothing_for parts = map (λ part. []) parts

left_parts : (parts left : List Part) (others : List (List Entry)) → AreOfParts parts others → AreOfParts (parts ++ left) (others ++ nothing_for left)
left_parts [] [] [] all = tt
left_parts [] (part ∷ left) [] all = (tt, left_parts [] left [] tt)
left_parts [] left (first ∷ others) all = absurd all
left_parts (first ∷ parts) left [] all = absurd all
left_parts (first ∷ parts) left (some ∷ others) all = (all.0, left_parts parts left others all.1)

abbrev joined : List (List Entry) → List Entry
joined others = flat_map (λ entries. entries) others

joined_nothing : (left : List Part) → joined (nothing_for left) ≡ []
joined_nothing [] = refl
joined_nothing (part ∷ left) = joined_nothing left

joined_left : (others : List (List Entry)) (left : List Part) → joined (others ++ nothing_for left) ≡ joined others
joined_left others left =
    flat_map-append (λ entries. entries) others (nothing_for left) ∙ ap (λ xs. joined others ++ xs) (joined_nothing left) ∙ append-nil (joined others)

-- ---- a journal that grows

abbrev AreTurns : List TurnEntries → Type 0
AreTurns turns = AllByRecursion (λ turn. AreOfParts turn_parts turn.parts) turns

more_turns : (turns : List TurnEntries) (turn : TurnEntries) → AreTurns turns → AreOfParts turn_parts turn.parts → AreTurns (turns ++ turn ∷ [])
more_turns [] turn all is = (is, tt)
more_turns (first ∷ turns) turn all is = (all.0, more_turns turns turn all.1 is)

-- a turn is under way, and these are the parts of it so far
pub record IsInTurn (parts : List Part) (journal : List Entry) : Type 0 where
  pub turns : List TurnEntries
  pub are_turns : AllByRecursion (λ turn. AreOfParts turn_parts turn.parts) turns
  pub turn : TurnEntries
  pub journal_is : journal ≡ flat_map entries_in_turn turns ++ entries_in_turn turn
  pub in_parts : AreOfParts parts turn.parts

pub turn_begins : (journal : List Entry) (slot : ℕ) (a_on : Bool) (b_on : Option Bool) → IsInOrder journal → IsInTurn [] (journal ++ Turn slot a_on b_on ∷ [])
turn_begins journal slot a_on b_on ordered = record {
  turns = ordered.turns;
  are_turns = ordered.in_parts;
  turn = record { slot = slot; a_on = a_on; b_on = b_on; parts = [] };
  journal_is = ap (λ entries. entries ++ Turn slot a_on b_on ∷ []) ordered.journal_is;
  in_parts = tt;
}

pub turn_goes_on : (parts : List Part) (journal : List Entry) (part : Part) (entries : List Entry) → IsInTurn parts journal → AreOfPart part entries
    → IsInTurn (parts ++ part ∷ []) (journal ++ entries)
turn_goes_on parts journal part entries turn is =
    let before = flat_map entries_in_turn turn.turns in
    let others = turn.turn.parts in
    let begins = Turn turn.turn.slot turn.turn.a_on turn.turn.b_on in
    record {
      turns = turn.turns;
      are_turns = turn.are_turns;
      turn = record { slot = turn.turn.slot; a_on = turn.turn.a_on; b_on = turn.turn.b_on; parts = others ++ entries ∷ [] };
      journal_is = ap (λ xs. xs ++ entries) turn.journal_is
          ∙ append_assoc before (begins ∷ joined others) entries
          ∙ ap (λ xs. before ++ begins ∷ xs) (ap (λ xs. joined others ++ xs) (sym (append-nil entries))
          ∙ sym (flat_map-append (λ xs. xs) others (entries ∷ [])));
      in_parts = more_parts parts others part entries turn.in_parts is;
    }

-- the turn is over, or the run stops in it: what is left of it has no entries
pub turn_stops : (parts left : List Part) (journal : List Entry) → turn_parts ≡ parts ++ left → IsInTurn parts journal → IsInOrder journal
turn_stops parts left journal are turn =
    let others = turn.turn.parts in
    let begins = Turn turn.turn.slot turn.turn.a_on turn.turn.b_on in
    let whole : TurnEntries =
    record { slot = turn.turn.slot; a_on = turn.turn.a_on; b_on = turn.turn.b_on; parts = others ++ nothing_for left } in
    record {
      turns = turn.turns ++ whole ∷ [];
      journal_is = turn.journal_is
          ∙ ap (λ xs. flat_map entries_in_turn turn.turns ++ begins ∷ xs) (sym (joined_left others left))
          ∙ ap (λ xs. flat_map entries_in_turn turn.turns ++ xs) (sym (append-nil (entries_in_turn whole)))
          ∙ sym (flat_map-append entries_in_turn turn.turns (whole ∷ []));
      in_parts = more_turns turn.turns whole turn.are_turns
          (subst (λ all. AreOfParts all (others ++ nothing_for left)) (sym are) (left_parts parts left others turn.in_parts));
    }

-- ---- the entries of events

journal_on : (links : Links) (first second : List Event)
    → journal_from links (first ++ second) ≡ journal_from links first ++ journal_from (fold links_after links first) second
journal_on links [] second = refl
journal_on links (event ∷ first) second =
    ap (λ xs. entries_of links event ++ xs) (journal_on (links_after links event) first second)
    ∙ sym (append_assoc (entries_of links event) (journal_from (links_after links event) first) (journal_from (fold links_after (links_after links event) first) second))

pub journal_more : (history events : List Event) → journal_of (history ++ events) ≡ journal_of history ++ journal_from (links_of history) events
unfolding journal_of links_of
journal_more history events = journal_on first_links history events

pub journal_event : (history : List Event) (event : Event) → journal_of (history ++ event ∷ []) ≡ journal_of history ++ entries_of (links_of history) event
journal_event history event =
    journal_more history (event ∷ []) ∙ ap (λ xs. journal_of history ++ xs) (append-nil (entries_of (links_of history) event))

side_noted : (side : Side) (link : ℕ → ℕ) (last : ℕ) (note : Note) → side_of_note (entry_of side link last note) ≡ Some side
side_noted side link last (UpNote packet) = refl
side_noted side link last note = refl

pub notes_noted : (links : Links) (station : ℕ) (notes : List Note) → AreNotes (side_of station) (journal_from links (map (Noted station) notes))
notes_noted links station [] = tt
notes_noted links station (note ∷ notes) =
    (side_noted (side_of station) (links.link_of station) (links.last_of station) note, notes_noted (links_after links (Noted station note)) station notes)

pub notes_more : (side : Side) (first second : List Entry) → AreNotes side first → AreNotes side second → AreNotes side (first ++ second)
notes_more side [] second one other = other
notes_more side (entry ∷ first) second one other = (one.0, notes_more side first second one.1 other)

pub notes_part : (side : Side) (entries : List Entry) → AreNotes side entries → AreOfPart (Noting side) entries
notes_part side [] are = tt
notes_part side (entry ∷ entries) are = are

-- what is added to a journal is notes
pub record AddsNotes (side : Side) (before after : List Event) : Type 0 where
  pub entries : List Entry
  pub journal_is : journal_of after ≡ journal_of before ++ entries
  pub are_notes : AllByRecursion (λ entry. side_of_note entry ≡ Some side) entries

pub call_adds : (given : Given) (station : ℕ) (step : Step) (history : List Event) → AddsNotes (side_of station) history (after_call given station step history)
call_adds given station step history =
    let notes = notes_after (setup_at given station) (facts_at given station history) step in record {
      entries = journal_from (links_of history) (map (Noted station) notes);
      journal_is = journal_more history (Called station step ∷ map (Noted station) notes);
      are_notes = notes_noted (links_of history) station notes;
    }

octets_add : (given : Given) (station : ℕ) (octets : List ℕ) (history : List Event)
    → AddsNotes (side_of station) history (after_octets given station octets history)
octets_add given station [] history = record { entries = []; journal_is = sym (append-nil (journal_of history)); are_notes = tt }
octets_add given station (octet ∷ octets) history =
    let next = after_call given station (HostOctet octet) history in
    let first = call_adds given station (HostOctet octet) history in
    let others = octets_add given station octets next in record {
      entries = first.entries ++ others.entries;
      journal_is = others.journal_is ∙ ap (λ xs. xs ++ others.entries) first.journal_is ∙ append_assoc (journal_of history) first.entries others.entries;
      are_notes = notes_more (side_of station) first.entries others.entries first.are_notes others.are_notes;
    }

-- what is added to a journal is of this part
pub record Adds (part : Part) (before after : List Event) : Type 0 where
  pub entries : List Entry
  pub journal_is : journal_of after ≡ journal_of before ++ entries
  pub are_of : AreOfPart part entries

pub feed_adds : (given : Given) (station : ℕ) (octets : List ℕ) (history : List Event)
    → Adds (Feeding (side_of station)) history (after_feed given station octets history)
feed_adds given station [] history = record { entries = []; journal_is = sym (append-nil (journal_of history)); are_of = tt }
feed_adds given station (octet ∷ octets) history =
    let event = HostFed station (octet ∷ octets) in
    let fed = entries_of (links_of history) event in
    let notes = octets_add given station (octet ∷ octets) (history ++ event ∷ []) in record {
      entries = fed ++ notes.entries;
      journal_is = notes.journal_is ∙ ap (λ xs. xs ++ notes.entries) (journal_event history event) ∙ append_assoc (journal_of history) fed notes.entries;
      are_of = ((refl, omega arith), notes.are_notes);
    }

pub packet_part : (side : Side) (channel : ℕ) (octets : List ℕ) (hearings : List Hearing) → AreOfPart (Sending side) (air_entries side channel octets hearings)
packet_part side channel octets [] = tt
packet_part side channel octets (hearing ∷ hearings) = (refl, refl)
